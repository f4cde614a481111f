pub mod Order
pub mod Keyed
pub mod Runs
pub mod Machine
pub mod Operations
