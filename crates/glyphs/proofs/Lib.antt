-- Laws that belong to no one function: where a glyph's columns stand.
pub mod Parts
