-- Number 8 and its row.
pub mod Fitting
mod Tests
mod Store
pub mod Number8
