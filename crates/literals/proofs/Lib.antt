-- The items, each by the tests that the code makes.
pub mod Spans
pub mod Integers
pub mod Binaries
