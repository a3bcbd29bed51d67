-- The stored log read afresh.
pub mod Reading
