pub mod NameSteps
pub mod Areas
pub mod Plain
pub mod Told
pub mod Linked
pub mod Undeclared
