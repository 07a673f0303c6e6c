pub mod Records
pub mod Calls
pub mod Plays
pub mod Begun
pub mod Demands
pub mod Premises
