pub mod Marks
pub mod Cutting
pub mod Parting
pub mod Scanned
pub mod Spelling
