pub mod Cells
pub mod Line
