pub mod BadTexts
pub mod Called
pub mod Ends
pub mod OneRead
pub mod Parts
pub mod Stacks
pub mod Texts
