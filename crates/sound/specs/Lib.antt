-- A row judged in two parts, which together are format's piece of refusal 16.
pub mod Parts
