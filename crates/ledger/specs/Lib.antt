-- A table with its stored log: entries kept, corrections taken.
pub mod Keeping
pub mod Entering
pub mod Righting
