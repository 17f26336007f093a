pub mod Laying
pub mod Naming
pub mod Running
pub mod Worlds
