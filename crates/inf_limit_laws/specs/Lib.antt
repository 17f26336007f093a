pub mod Within
pub mod Reached
pub mod Laws
