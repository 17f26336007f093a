mod Changes
mod Giving
mod Printing
mod Settled
pub mod Statements
mod Texts
pub mod Units
