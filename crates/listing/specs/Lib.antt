pub mod Numbers
pub mod Listing
