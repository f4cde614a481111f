pub mod Rows
pub mod WellFormed
pub mod Zero
pub mod Search
