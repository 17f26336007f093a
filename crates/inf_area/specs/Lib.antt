pub mod Fixups
pub mod Moves
pub mod Pages
pub mod Words
pub mod Cells
pub mod Scales
pub mod Sums
