pub mod Noting
pub mod Staying
