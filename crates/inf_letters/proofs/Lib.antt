pub mod Heard
pub mod Overs
