pub mod Orders
pub mod Loop
pub mod Outcome
