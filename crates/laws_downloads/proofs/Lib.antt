-- The laws, each module over those above it.
pub mod Tests
pub mod Seek
pub mod Places
pub mod Written
pub mod Stored
pub mod Kept
pub mod Drawn
pub mod Notes
