pub mod Names
pub mod Keeping
pub mod Directives
pub mod Staying
pub mod Arrays
pub mod Bytes
