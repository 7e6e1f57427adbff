pub mod Machine
pub mod Run
pub mod File
pub mod Sheet
pub mod Claims
pub mod Examples
