pub mod Apart
pub mod Words
pub mod Demand
pub mod Locking
pub mod Examples
pub mod Single
pub mod Calls
pub mod Tail
