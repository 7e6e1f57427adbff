pub mod Runner
pub mod Came
