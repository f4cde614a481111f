pub mod Lawful
mod Reading
pub mod Writing
pub mod Checking
