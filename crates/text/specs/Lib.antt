-- What the writer answers, in the paper's numbers
pub mod Answers
-- the rows of a sound table
pub mod Rows
-- the walk over the rows, from leaf to leaf
pub mod Walk
-- the walk on its way
pub mod Way
-- a stack of words
pub mod Stack
