pub mod Walked
pub mod Story
