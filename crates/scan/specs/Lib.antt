-- Runs of plain bytes in quoted text.
pub mod Plain
