pub mod Turns
pub mod PieceLaws
pub mod Handing
pub mod Inside
