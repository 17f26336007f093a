pub mod Actions
pub mod Operands
pub mod Strings
pub mod Texts
pub mod Output
pub mod Veneer
