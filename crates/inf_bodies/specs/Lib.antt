pub mod ShortNames
pub mod Objects
pub mod Bodies
pub mod Values
