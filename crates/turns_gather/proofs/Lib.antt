-- What bytes are read as, one after the other.
pub mod Onward
