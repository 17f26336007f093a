pub mod OwnWords
pub mod Messages
pub mod Meant
pub mod Writing
pub mod Wordings
pub mod Reports
