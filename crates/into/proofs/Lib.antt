pub mod Behind
pub mod Ready
pub mod Telling
pub mod Putting
