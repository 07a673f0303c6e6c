-- Laws of a run of an image's bytes: of its rows and their marks, and of where the loop has come to.
pub mod Rows
mod Corner
mod Filling
