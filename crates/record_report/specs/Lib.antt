pub mod Numbers
pub mod Sheeted
