-- Two tables that share a pool.
pub mod Couple
