-- The crate's definitions.
pub mod Tests
