pub mod Marked
pub mod Rules
pub mod LineFeed
pub mod Lanes
