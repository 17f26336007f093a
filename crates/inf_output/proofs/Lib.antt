pub mod Limits
pub mod Proper
pub mod Cutting
