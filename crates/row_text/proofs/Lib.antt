pub mod Composing
mod Decimals
mod Lines
mod Texts
pub mod Bounded
