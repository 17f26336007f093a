pub mod Precedence
pub mod Gathered
pub mod Laws
