pub mod Orders
pub mod Phases
pub mod Reach
