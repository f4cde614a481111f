pub mod Zero
pub mod Calendar
pub mod Table
pub mod Order
pub mod Rules
pub mod Sizes
pub mod Same
