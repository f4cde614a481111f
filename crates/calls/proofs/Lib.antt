pub mod Orders
pub mod Keyed
pub mod Runs
pub mod Machine
pub mod Operations
pub mod Lines
