pub mod Values
pub mod Requests
pub mod Calls
pub mod Sheet
pub mod WellFormed
