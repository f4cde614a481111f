pub mod Orders
pub mod Requests
pub mod Calls
pub mod Compared
