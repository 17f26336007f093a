pub mod Called
pub mod Calling
pub mod Counting
pub mod Endings
pub mod Joining
