-- The theorems about the definitions; docs/THEOREMS.md lists them by number.

-- laws of tests, lists and tables
pub mod Tests
pub mod Lists
pub mod Table
pub mod SameBytes
pub mod Classes
-- the bench lines, and our own
pub mod Bench
pub mod Bounds
-- what is known of an item that was read, and of each move of the machine
pub mod Items
pub mod Moves
pub mod Growth
-- the machine at rows and at terms
pub mod Simulation
pub mod SoundRows
pub mod SoundTerms
pub mod TableRows
-- limits, places and counts
pub mod Limits
pub mod Places
pub mod RowCount
-- what an accepted decoding leaves
pub mod Decoded
-- plain text, read back
pub mod FreeRun
pub mod ReadBack
pub mod Sizes
pub mod Rounds
-- what a writing leaves
pub mod Written
-- bytes appended or changed after the end
pub mod Suffix
pub mod Unchanged
