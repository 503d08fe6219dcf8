-- The items, each by the tests that the code makes.
pub mod Steps
pub mod Lists
pub mod Registers
pub mod Tuples
