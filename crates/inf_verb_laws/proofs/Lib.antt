pub mod Extended
pub mod First
pub mod Flags
pub mod Lines
pub mod Rows
pub mod Saying
