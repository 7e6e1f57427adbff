pub mod Checks
pub mod Refusal
