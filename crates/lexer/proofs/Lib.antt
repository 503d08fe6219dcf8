-- Laws of the readers, at a place of a message.

-- the byte there, its class, and the range of digits
pub mod Bytes
-- registers, quoted text
pub mod Registers
pub mod Scans
-- integers: the run of digits, its sign and range, both together
pub mod Runs
pub mod Signs
pub mod Integers
