pub mod Cells
pub mod Ring
