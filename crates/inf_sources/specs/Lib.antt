pub mod Calls
pub mod Cursors
pub mod Inclusions
pub mod Open
pub mod Choosing
pub mod Heading
pub mod Quoted
