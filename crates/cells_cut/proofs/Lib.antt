-- A law that belongs to no one function: of the test for a whole cell.
pub mod Whole
