-- Laws that belong to no one function: of columns mixed into memory, and of cells enlarged or stamped.
pub mod Columns
mod Enlarged
pub mod Stamps
