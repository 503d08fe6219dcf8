-- From the tables and the state to the machine's step.

-- the limits of the tables, and pops from the stack that the table holds
pub mod Limits
pub mod Pops
-- items that make no row
pub mod Passes
-- the machine in its tables
pub mod Lent
