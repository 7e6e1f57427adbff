pub mod Long
pub mod Examples
pub mod Shape
pub mod Bound
pub mod Asked
pub mod Parts
pub mod Outcome
