mod Inks
mod Turns
mod Desk
mod Light
