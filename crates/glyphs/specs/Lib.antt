pub mod Cell
pub mod Faces
pub mod Own
