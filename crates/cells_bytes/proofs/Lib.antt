-- Laws that belong to no one function: of an image's byte, of strokes for callers.
mod Images
pub mod Strokes
