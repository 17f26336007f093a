pub mod Attributes
pub mod Properties
pub mod Globals
pub mod Arrays
