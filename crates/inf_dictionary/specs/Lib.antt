pub mod Texts
pub mod Words
pub mod Lookup
pub mod Uses
