-- Laws that belong to no one function: of bytes laid into memory, one column after the other.
pub mod Laid
pub mod Stacked
