-- What each reader answers, from the bytes r that stand at the offset p.
pub mod Quoted
pub mod Register
pub mod Integer
pub mod Digits
