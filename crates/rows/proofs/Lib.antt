pub mod Cases
pub mod Rows
pub mod Words
