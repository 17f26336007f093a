pub mod Claims
pub mod Machine
pub mod Supplied
pub mod Worlds
