-- Laws of the soundness check.

-- quoted bytes, judged from left to right
pub mod Spelled
-- a row judged in two parts
pub mod Parts
-- rows, judged one after the other
pub mod Judged
