pub mod Plays
pub mod Links
