pub mod Lightness
pub mod Gathering
