-- Laws about the definitions of specs/, for this crate's proofs and for those of the crates above it.

pub mod Blocks
pub mod Packs
pub mod Entries
pub mod Fronts
pub mod Bounds
