-- Laws that belong to no one function: of which glyphs are framed, of how a glyph is placed, and of the columns of a whole cell.
pub mod Frames
pub mod Beside
