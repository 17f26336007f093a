pub mod Tests
pub mod Reading
pub mod Pieces
pub mod Standing
pub mod Handing
pub mod Headers
pub mod Directives
pub mod Acting
