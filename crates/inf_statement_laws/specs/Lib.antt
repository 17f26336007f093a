pub mod Happenings
pub mod Nested
pub mod Laid
pub mod Readings
pub mod Laws
