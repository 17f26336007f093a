pub mod Capped
pub mod Cuts
pub mod Faults
pub mod Pairs
pub mod Pieces
pub mod Plain
pub mod Singles
