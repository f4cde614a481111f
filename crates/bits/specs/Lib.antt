pub mod Bits
pub mod Units
pub mod Datagrams
