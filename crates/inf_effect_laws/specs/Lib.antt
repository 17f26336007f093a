pub mod Described
pub mod Laws
pub mod Units
pub mod Written
