pub mod Closed
pub mod Locks
