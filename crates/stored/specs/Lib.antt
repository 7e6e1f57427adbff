pub mod Runs
pub mod Its
pub mod Stored
