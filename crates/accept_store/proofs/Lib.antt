-- The laws over which the functions' proofs stand.
pub mod Places
pub mod Zeros
