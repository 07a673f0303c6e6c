-- Laws that belong to no one function: of the columns of a row.
mod Rows
