pub mod Bridges
pub mod Filling
pub mod Finishing
pub mod Opened
pub mod Passes
pub mod Placing
