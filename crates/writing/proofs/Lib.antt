-- Laws about the definitions of specs/, for this crate's proofs and for those of the crates above it.

pub mod Sheets
pub mod Nine
pub mod Pairs
