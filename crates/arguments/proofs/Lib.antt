pub mod Legal
pub mod Told
pub mod Names
