pub mod DrawnAs
pub mod Mixed
