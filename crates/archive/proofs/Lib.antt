-- The theorems about the stored log.
pub mod Lists
pub mod Index
pub mod Entered
pub mod Righted
pub mod Corrected
