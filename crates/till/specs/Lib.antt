pub mod Till
pub mod Booking
pub mod Settle
pub mod Balanced
pub mod Rooms
pub mod View
