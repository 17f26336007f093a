pub mod Bits
pub mod OpenStacks
pub mod OpenRoutines
pub mod CodeTables
pub mod SourceLaws
pub mod Spaced
