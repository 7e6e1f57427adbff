pub mod Checks
pub mod Good
pub mod Settling
pub mod View
pub mod Examples
pub mod Table
