-- Laws about records, rows and places, for this crate's proofs and for those of the crates above it.
pub mod Words
pub mod Puts
pub mod Found
pub mod Again
