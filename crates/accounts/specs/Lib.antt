-- The evening's sums.
pub mod Sums
