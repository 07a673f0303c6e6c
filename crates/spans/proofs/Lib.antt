-- What is proved of spans that belongs to no one function: a law of columns, and the steps that both walks take.
pub mod Columns
