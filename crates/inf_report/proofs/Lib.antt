pub mod Writings
pub mod Runs
