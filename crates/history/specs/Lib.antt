pub mod Sheet
pub mod History
pub mod SameTable
pub mod Demand3
