-- Two tables that share a pool, over whole inputs.

pub mod Blanked
pub mod Keyed
pub mod Hands
pub mod Lent
