pub mod SystemNames
pub mod Symbols
pub mod Entries
pub mod Keys
pub mod Spellings
pub mod Locals
pub mod LocalList
pub mod NameSets
