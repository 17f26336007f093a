mod Assigned
pub mod Called
pub mod Compared
mod Conditions
mod Counting
pub mod Expressions
mod Groups
pub mod Instructions
pub mod Meant
mod Messages
pub mod Supplying
pub mod Working
