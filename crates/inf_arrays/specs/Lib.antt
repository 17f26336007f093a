pub mod Adding
pub mod Arrays
pub mod Globals
pub mod Kinds
pub mod Listing
