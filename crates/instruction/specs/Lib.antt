pub mod Addresses
pub mod Parts
