pub mod LowStrings
pub mod Tables
pub mod Totals
pub mod Faults
pub mod Objects
pub mod World
pub mod Areas
