pub mod Progress
pub mod LockOrder
pub mod Deadlock
pub mod Claimed
