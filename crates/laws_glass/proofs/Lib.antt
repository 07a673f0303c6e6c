-- What strokes keep, and marks one after another.
pub mod Glass
pub mod Marks
