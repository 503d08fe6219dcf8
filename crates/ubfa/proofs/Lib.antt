pub mod Places
pub mod Accepted
pub mod Demand2
pub mod Demand3
