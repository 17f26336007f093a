pub mod Moving
pub mod Paging
pub mod Joining
pub mod Sums
