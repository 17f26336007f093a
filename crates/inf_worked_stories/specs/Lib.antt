pub mod Hello
pub mod Sources
