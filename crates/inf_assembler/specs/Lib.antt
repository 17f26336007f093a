pub mod Closing
pub mod Places
pub mod Routines
