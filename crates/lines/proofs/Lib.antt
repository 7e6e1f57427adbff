pub mod Shape
pub mod Words
pub mod Cells
pub mod Bound
