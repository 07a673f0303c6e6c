pub mod Events
pub mod Demands
pub mod Links
