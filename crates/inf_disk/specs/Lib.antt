pub mod Disk
pub mod Trouble
