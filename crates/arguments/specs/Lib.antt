pub mod Called
pub mod Counts
pub mod Runs
pub mod Written
