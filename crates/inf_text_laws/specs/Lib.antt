pub mod Joining
pub mod Plain
pub mod Spelled
