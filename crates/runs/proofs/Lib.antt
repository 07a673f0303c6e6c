-- Laws of the runs: of the tests for a line and its last cell, and of where the loop has come to.
mod Lines
mod Running
