pub mod Cuts
pub mod Groups
pub mod Given
pub mod Examples
