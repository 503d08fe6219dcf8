-- From the items to the run and the whole answer.

-- the limits, an item's turn, and the loop over items
pub mod Within
pub mod Turns
pub mod Loop
-- the whole answer
pub mod Decodes
