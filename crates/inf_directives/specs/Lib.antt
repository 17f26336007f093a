pub mod Defaults
pub mod Switches
pub mod Abbreviations
pub mod Headers
