pub mod Plays
pub mod Demands
