pub mod Integers
pub mod Known
pub mod Parts
pub mod Senses
pub mod Untold
pub mod Whole
