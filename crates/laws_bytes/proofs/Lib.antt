-- The laws, each module over those above it.
pub mod Every
pub mod Dots
pub mod Penned
pub mod Drawn
pub mod Tests
pub mod Chain
pub mod Columns
pub mod Readings
pub mod Beginnings
pub mod Endings
pub mod Counts
