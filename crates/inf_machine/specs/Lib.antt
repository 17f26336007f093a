pub mod Decided
pub mod Grammar
pub mod Laws
pub mod Machine
pub mod Pieces
pub mod Steps
