pub mod Named
pub mod Stacks
pub mod Outermost
