pub mod Runs
pub mod Apart
pub mod Once
pub mod Examples
