-- Number 8's clauses.
pub mod Row
