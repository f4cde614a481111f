pub mod Ways
pub mod Parts
pub mod Packed
pub mod Valid
