-- The laws of the downloads changed.
pub mod Stored
mod Erased
