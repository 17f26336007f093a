pub mod KeyBytes
pub mod Putting
pub mod Unknown
pub mod LocalLemmas
pub mod Places
pub mod SameNames
pub mod NameLists
