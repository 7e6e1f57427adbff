pub mod Which
pub mod New
pub mod Turning
pub mod Both
pub mod Rows
pub mod Going
