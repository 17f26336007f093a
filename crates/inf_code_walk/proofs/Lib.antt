pub mod Rows
pub mod Statements
