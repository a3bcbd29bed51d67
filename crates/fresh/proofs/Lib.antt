-- Laws about the fresh reading, for this crate's proofs and for those of the crates above it.
pub mod Steps
pub mod Counts
pub mod Reached
