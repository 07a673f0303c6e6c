pub mod Room
pub mod After
pub mod Parts
pub mod Sized
pub mod Guest
pub mod Joined
pub mod Runs
pub mod Told
