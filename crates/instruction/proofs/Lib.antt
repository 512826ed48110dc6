pub mod Bisection
pub mod Risings
