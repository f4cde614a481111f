pub mod Back
pub mod Declared
pub mod Images
