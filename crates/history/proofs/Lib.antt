mod Alike
pub mod SheetIs
mod Runs
mod Places
mod Faults
mod AtPlace
mod Filled
mod Fitting
mod Images
mod SameKeys
pub mod SameTables
pub mod SameCalls
pub mod SameRuns
pub mod Never30
pub mod Unnamed
pub mod Releases
pub mod Demand3
