pub mod Going
pub mod Answering
pub mod Picking
