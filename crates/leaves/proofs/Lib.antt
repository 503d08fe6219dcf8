-- Laws of the texts of leaves, stored part by part.

-- stores one after another
pub mod Stores
-- digits one by one
pub mod Decimals
-- bytes copied part by part, and those of a span
pub mod Spans
-- the texts of leaves
pub mod Leaves
