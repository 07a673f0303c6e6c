pub mod Same
pub mod Stands
pub mod Back
mod Written
mod Idle
