pub mod Examples
pub mod Joining
pub mod Plainly
pub mod Spelled
