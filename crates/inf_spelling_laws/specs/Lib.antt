pub mod Source
pub mod Spelling
