pub mod Inverse
pub mod Demand2
