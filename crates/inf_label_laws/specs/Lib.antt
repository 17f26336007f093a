pub mod Examples
pub mod Labels
