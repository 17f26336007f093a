pub mod Texts
pub mod Rules
pub mod Nesting
pub mod Acts
pub mod Laying
pub mod Reading
