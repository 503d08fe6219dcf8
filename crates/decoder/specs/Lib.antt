-- `Answers` gives the paper's numbers for what `decode` answers; `Run` is for the functions inside.
pub mod Answers
pub mod Run
