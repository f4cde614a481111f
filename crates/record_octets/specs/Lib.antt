pub mod Record
pub mod Typed
