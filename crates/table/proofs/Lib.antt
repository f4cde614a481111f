pub mod Parts
pub mod InOrder
pub mod Search
pub mod Moves
pub mod Kept
pub mod Seeking
