pub mod Declarations
pub mod Laws
pub mod Arrays
pub mod ArrayLaws
