-- Laws of the lengths of the rows' texts.
pub mod Lengths
