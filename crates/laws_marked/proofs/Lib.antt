mod Fed
pub mod Typed
mod Glyph
pub mod Cases
pub mod Rules
pub mod LineFeed
pub mod Lanes
