pub mod Wrap
pub mod Threads
pub mod Queue
pub mod Promises
pub mod Refusal
pub mod Examples
