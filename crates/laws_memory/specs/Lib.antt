pub mod Rectangles
pub mod Glass
