pub mod Endings
pub mod Delivering
pub mod Quiet
