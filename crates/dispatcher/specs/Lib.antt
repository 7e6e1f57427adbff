pub mod Rows
pub mod Store
pub mod Answer
pub mod Choosing
