pub mod Tally
pub mod Site
pub mod File
pub mod Sheet
pub mod Claims
pub mod Examples
pub mod Code
