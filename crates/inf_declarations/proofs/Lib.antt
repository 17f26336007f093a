pub mod Numbers
pub mod Staying
