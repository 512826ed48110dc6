pub mod Walk
pub mod Widths
pub mod Follow
pub mod Heights
