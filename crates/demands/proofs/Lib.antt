-- The demands follow from the functions' own promises. Each theorem's first hypothesis is such a promise.
-- numbers of refusals, errors replaced
pub mod Numbers
pub mod Errors
-- the demands
pub mod Demand1
pub mod Demand2
pub mod Demand3
pub mod SensorWords
