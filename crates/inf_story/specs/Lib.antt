pub mod Names
pub mod Tables
pub mod Stories
pub mod Statistics
pub mod Plain
