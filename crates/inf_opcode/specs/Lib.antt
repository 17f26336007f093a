pub mod Cells
pub mod Counts
pub mod Grown
pub mod Instructions
pub mod Names
pub mod Opcodes
pub mod PartsOf
pub mod Slots
