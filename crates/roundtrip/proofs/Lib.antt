mod Zeros
mod Parts
pub mod ReadBack
pub mod WrittenAgain
pub mod OnlyHeader
pub mod UnusedZero
pub mod SameRecords
pub mod Calls
pub mod Demand2
