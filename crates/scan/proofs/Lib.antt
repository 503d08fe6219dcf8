-- Laws of runs of plain bytes.
pub mod Runs
