-- Laws that belong to no one function: of the columns of a cell two rows high.
mod Columns
