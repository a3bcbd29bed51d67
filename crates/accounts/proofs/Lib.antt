-- Theorems about the evening's sums.
pub mod Evening
