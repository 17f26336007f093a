pub mod Covered
pub mod Laws
pub mod Values
