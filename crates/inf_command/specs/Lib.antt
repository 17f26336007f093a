pub mod Words
pub mod FileNames
pub mod Directories
pub mod Dates
pub mod Spoken
pub mod Heads
