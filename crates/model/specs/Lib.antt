pub mod Objections
pub mod Judge
pub mod Well
pub mod Depths
pub mod Built
