pub mod WordSteps
pub mod Stems
pub mod Cutting
pub mod Numbers
pub mod Heads
pub mod Ascii
