pub mod Things
pub mod Families
pub mod Declaring
pub mod Laws
pub mod Whole
pub mod Rows
pub mod Parts
