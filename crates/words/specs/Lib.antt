-- What the word reader answers, in the paper's numbers
pub mod Answers
-- the known names as the constant tables have them, and the order of bytes; for the functions inside
pub mod Known
