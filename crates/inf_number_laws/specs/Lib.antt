pub mod Integers
pub mod Known
pub mod Whole
pub mod Written
