-- Laws about a correction, for this crate's proofs and for those of the crates above it.
pub mod Judging
