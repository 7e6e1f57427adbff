pub mod Root
pub mod Plain
pub mod Sheet
pub mod Alike
pub mod Equal
pub mod Examples
