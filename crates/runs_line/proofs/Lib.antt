-- Laws of a line: of its cells, and of where its loop has come to.
mod Lines
pub mod Lining
