pub mod NumberBits
pub mod OctetBits
pub mod BitOfOctet
pub mod Splices
pub mod Fields
mod Shifts
mod Steps
mod ReadStep
mod WriteStep
pub mod Packing
