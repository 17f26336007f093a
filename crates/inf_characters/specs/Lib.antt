pub mod Characters
pub mod Items
pub mod Numbers
pub mod Reading
pub mod Runs
