pub mod Facts
pub mod Cuts
pub mod Offsets
pub mod Totals
pub mod Parts
pub mod Quotes
