pub mod Calls
pub mod Runner
