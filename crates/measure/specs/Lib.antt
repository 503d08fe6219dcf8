-- The lengths of the rows' texts.
pub mod Lengths
