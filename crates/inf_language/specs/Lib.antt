pub mod Texts
pub mod Units
pub mod Sifting
pub mod Gathered
pub mod NamedLocals
pub mod Headers
pub mod HeaderNames
pub mod Constants
