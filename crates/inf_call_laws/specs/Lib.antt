pub mod BadTexts
pub mod Laid
pub mod Texts
