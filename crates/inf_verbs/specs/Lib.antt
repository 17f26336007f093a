pub mod Lines
pub mod Routines
pub mod Verbs
