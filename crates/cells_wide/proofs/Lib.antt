-- Laws that belong to no one function: of rows drawn as a style asks for them.
pub mod Styles
