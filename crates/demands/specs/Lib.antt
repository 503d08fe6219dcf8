-- The demands as statements over what the functions answer and the tables that they leave, one file for each demand.
pub mod Demand1
pub mod Demand2
pub mod Demand3
