pub mod Verbs
pub mod Reading
pub mod Laws
pub mod Saying
pub mod Rows
