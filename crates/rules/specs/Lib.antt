pub mod Ranks
pub mod Sees
