pub mod Loop
pub mod Refusal
pub mod Start
