-- The laws that the writer's proofs use.

-- a plain text counted row by row
pub mod Counts
-- a text stored part by part
pub mod Partly
-- the frames of the walk, and the texts of rows by the rows that they name
pub mod Frames
-- how the walk has gone on
pub mod Turned
-- from a row down to its first leaf
pub mod Entering
-- the fields of a tuple
pub mod Fields
-- the item of a list cell
pub mod Items
-- a turn of a frame
pub mod Turns
-- the turns one after another, and the walk from the root to the end
pub mod Passes
pub mod Storing
-- what has to be answered
pub mod Answered
