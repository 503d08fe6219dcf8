-- bytes joined in either order, and what holds of a word of every width
pub mod Joins
pub mod Widths
pub mod Numbers
-- the constant tables, and what a known name says
pub mod Names
pub mod Tags
-- word k of a block, and the rows that are one
pub mod Blocks
pub mod Rows
