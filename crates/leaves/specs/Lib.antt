-- The texts of leaves.
pub mod Leaves
-- bytes stored one after another
pub mod Outputs
