-- The laws that the comparison's proofs use.

-- the first number that passes a test
pub mod Firsts
-- terms that are the same, and the class of each row
pub mod SameTerms
pub mod RowClasses
-- spans and integers, compared
pub mod Spans
pub mod Integers
-- rows, compared by their classes
pub mod Tested
pub mod SameRows
-- the search for a row's class
pub mod Searches
-- what has to be answered
pub mod Answered
