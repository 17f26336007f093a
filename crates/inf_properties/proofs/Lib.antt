pub mod Finding
pub mod Inheriting
pub mod Having
pub mod Sums
pub mod Short
pub mod Steps
pub mod Opening
pub mod Fitting
