pub mod Decoding
pub mod Fields
pub mod Filling
pub mod Items
pub mod Laws
