pub mod Row
pub mod Loop
pub mod Values
pub mod Piece
pub mod Refusal
pub mod Whole
