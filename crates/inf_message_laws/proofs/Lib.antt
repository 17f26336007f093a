pub mod Told
pub mod Walked
