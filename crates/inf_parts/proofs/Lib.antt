pub mod Lines
pub mod Noting
pub mod Staying
