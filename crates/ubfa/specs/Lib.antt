pub mod Answers
-- the demands that join two functions, over what these promise
pub mod Demand2
pub mod Demand3
