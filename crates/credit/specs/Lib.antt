pub mod Runner
pub mod Sheeted
