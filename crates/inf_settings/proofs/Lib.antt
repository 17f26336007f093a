pub mod Decimals
pub mod Finding
