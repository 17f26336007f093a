pub mod Context
pub mod Words
pub mod Findings
pub mod Actions
pub mod Crowds
pub mod Nesting
pub mod Works
pub mod Meant
