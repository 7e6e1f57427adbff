pub mod Rows
pub mod File
