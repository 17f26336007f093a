pub mod Attributes
pub mod Tree
pub mod Objects
pub mod Tables
pub mod Measures
pub mod Reading
