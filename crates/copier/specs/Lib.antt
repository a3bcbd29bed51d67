-- A log copied fair as it comes.
pub mod Onward
pub mod Feeding
