pub mod Shape
pub mod Long
pub mod Sheeted
