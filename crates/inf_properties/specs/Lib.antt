pub mod Properties
pub mod Values
pub mod Sizes
pub mod Places
pub mod Open
