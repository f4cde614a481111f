pub mod Table
pub mod Typed
pub mod Image
