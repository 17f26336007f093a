pub mod Files
pub mod Given
pub mod MemoryFiles
pub mod Sinks
pub mod MemorySink
