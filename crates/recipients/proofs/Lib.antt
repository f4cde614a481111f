mod Sought
pub mod Blanks
