pub mod Promise
pub mod Outcome
pub mod Tail
pub mod Loop
pub mod Sheeted
pub mod Counted
