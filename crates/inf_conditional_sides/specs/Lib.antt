pub mod Sides
pub mod Judged
pub mod Rests
pub mod Runs
pub mod Ends
pub mod Keeping
pub mod Told
pub mod Tellings
