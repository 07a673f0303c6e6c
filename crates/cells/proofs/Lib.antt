-- Laws that belong to no one function: of the tests for a plain cell, of strokes for callers.
mod Plain
pub mod Strokes
