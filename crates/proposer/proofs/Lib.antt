pub mod Steps
pub mod Sittings
pub mod Worths
pub mod Payment
pub mod Finding
pub mod Order
