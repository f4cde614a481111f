pub mod Parts
pub mod Replaced
pub mod Stores
pub mod Lists
pub mod Sets
pub mod Moved
pub mod Inserted
mod Shift
pub mod Copying
