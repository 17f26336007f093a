pub mod Statements
pub mod Printing
pub mod Assembly
pub mod Effects
pub mod Sites
