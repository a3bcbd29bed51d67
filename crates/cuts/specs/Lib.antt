-- Lines that come byte by byte.
pub mod Kept
