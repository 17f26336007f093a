pub mod Owning
pub mod Programs
