pub mod Bodies
pub mod Routines
