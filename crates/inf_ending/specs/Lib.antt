pub mod Faults
pub mod Ending
pub mod Delivered
