pub mod Settings
pub mod Words
pub mod Assignments
pub mod Bounds
