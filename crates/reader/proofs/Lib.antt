mod FillBits
mod Judging
mod Filled
pub mod Accepts
