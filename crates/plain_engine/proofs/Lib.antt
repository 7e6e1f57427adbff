pub mod Loop
pub mod Orders
pub mod Outcome
pub mod Reach
