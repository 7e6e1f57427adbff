pub mod Replays
pub mod Examples
pub mod Counts
pub mod Sweep
pub mod Fits
