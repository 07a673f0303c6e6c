-- Laws of the places and of the loop that writes one, over which the functions' proofs stand.
pub mod Turns
pub mod Written
