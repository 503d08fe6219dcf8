-- What the comparison answers, in the paper's numbers
pub mod Answers
-- the class of each row, and how two rows are compared by classes
pub mod Classes
pub mod Same
pub mod Sides
