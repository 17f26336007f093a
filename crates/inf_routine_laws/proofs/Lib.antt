mod Booking
mod Balance
pub mod Constructing
mod Naming
mod Acting
mod Stepping
mod Nesting
mod Whole
