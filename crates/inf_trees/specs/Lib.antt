pub mod Trees
pub mod Room
pub mod Ends
pub mod Directives
pub mod Statements
