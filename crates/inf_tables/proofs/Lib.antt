pub mod Latest
pub mod Counting
pub mod Joining
pub mod WorldTables
