pub mod Inked
