pub mod At
pub mod Atoms
pub mod Classes
pub mod Rows
pub mod Slots
pub mod Table
pub mod Words
