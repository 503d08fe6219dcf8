-- What the items make of what the readers answer.
pub mod Readers
