pub mod Rows
pub mod Runner
