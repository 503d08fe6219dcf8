-- The machine of format's definitions as the tables lent to it hold it, so that each item promises the machine's own step.
pub mod Held
