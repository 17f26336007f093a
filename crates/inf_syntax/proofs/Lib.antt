pub mod Slots
pub mod Keywords
