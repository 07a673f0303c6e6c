-- Laws that belong to no one function: of telegrams in a piece.
pub mod Good
pub mod Search
pub mod Places
pub mod Rest
pub mod Onward
pub mod Cases
