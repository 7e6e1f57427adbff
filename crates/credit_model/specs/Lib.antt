pub mod Credit
pub mod Above
pub mod File
pub mod Sheet
pub mod Claims
pub mod Examples
