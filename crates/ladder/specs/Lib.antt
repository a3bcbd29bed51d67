-- Document 02, request No. 11.

pub mod Ladder
pub mod Reckoned
