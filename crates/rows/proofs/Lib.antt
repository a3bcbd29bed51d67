pub mod Fits
pub mod Reading
pub mod Settling
pub mod Slots
pub mod Paid
