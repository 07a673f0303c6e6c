-- Laws that belong to no one function: of tests, of addresses, of lists changed by address, of rectangles.
pub mod Tests
pub mod Addresses
pub mod Each
pub mod Rects
pub mod Pulls
pub mod Spans
pub mod Glass
pub mod Strokes
