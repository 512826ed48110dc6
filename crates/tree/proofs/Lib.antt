pub mod Rules
pub mod Expressions
