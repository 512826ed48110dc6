pub mod Described
pub mod Pieces
pub mod Pointers
pub mod Quotients
pub mod Orders
pub mod Worked
