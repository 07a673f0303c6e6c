-- Laws that belong to no one function: of the two loops that look for a telegram.
pub mod Turns
