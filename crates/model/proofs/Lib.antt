pub mod Passing
pub mod Typing
pub mod Exactly
pub mod Depth
pub mod Lookups
