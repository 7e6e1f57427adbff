pub mod Pieces
pub mod File
pub mod Runs
pub mod Begin
