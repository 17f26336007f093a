pub mod Again
pub mod Ranks
pub mod Wholes
pub mod Halves
pub mod Known
pub mod Faults
