-- Laws about a book, for this crate's proofs and for those of the crates above it.
pub mod Telling
pub mod Holding
pub mod Closing
