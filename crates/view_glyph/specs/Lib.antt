pub mod Glyph
