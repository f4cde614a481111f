pub mod Arguments
pub mod Numbers
pub mod Told
