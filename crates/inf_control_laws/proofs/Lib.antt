mod Cases
pub mod Laying
mod Loops
mod Opening
mod Pieces
pub mod Plain
pub mod Premises
mod Settling
pub mod Reaching
pub mod Statements
mod Turning
pub mod Units
mod Walking
