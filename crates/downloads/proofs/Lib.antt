-- A law for the crates above: a test of each item of a list is one of each number below its length.
pub mod Listed
