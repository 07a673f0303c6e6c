-- The laws of what a command leaves half read, and of what is handed in.
mod Kept
mod Handed
