pub mod Runner
pub mod Bench
pub mod Sheeted
pub mod Failures
