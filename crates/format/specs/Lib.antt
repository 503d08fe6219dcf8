-- UBF(A) defined, to be read in this order beside 01-scope.md ("01" in the comments) and the manual page.

-- 'Bytes and items'
pub mod Byte
pub mod Classes
pub mod Lex
-- 'The machine', and from 'Refusal numbers' the order within each item
pub mod Machine
pub mod Term
pub mod Meaning
-- 'Row table' and 'Numbers that bound the work'
pub mod Bits
pub mod Bound
pub mod Rows
pub mod Kinds
-- 'Plain text', with refusal 16
pub mod Text
pub mod Sound
-- 'Sensor words'
pub mod Word
-- 'Refusal numbers', and the whole answer of each public function
pub mod Number
pub mod Answer
-- 'Bench messages', and cases of our own
pub mod Bench
pub mod Cases
