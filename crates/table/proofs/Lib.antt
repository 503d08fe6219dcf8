-- Laws of the tables.

-- rows at the head of a table, and the values of a stack
pub mod Rows
-- a table cleared past its rows, and rows stored whatever lies past them
pub mod Cleared
-- a tuple's rows, as the code stores them
pub mod Tuple
