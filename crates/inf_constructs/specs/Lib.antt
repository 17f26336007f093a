pub mod Labels
pub mod Entries
pub mod Roots
pub mod Constructs
pub mod Cases
