pub mod Record
pub mod Told
pub mod Sheet
pub mod Pieces
pub mod Runs
pub mod Begin
