pub mod Octets
pub mod Transition
