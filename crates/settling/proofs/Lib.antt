pub mod Amount
pub mod Going
