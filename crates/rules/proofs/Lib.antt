pub mod Over
pub mod Firsts
pub mod Shares
pub mod Looks
