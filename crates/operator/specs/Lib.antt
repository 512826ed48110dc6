pub mod Words
pub mod Rules
pub mod Bits
