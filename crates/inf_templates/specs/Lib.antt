pub mod Meaning
pub mod Parts
pub mod Tasks
pub mod Weights
