pub mod Counting
pub mod Fronts
pub mod Growing
pub mod Named
