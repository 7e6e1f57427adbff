pub mod Kept
pub mod View
pub mod Waking
