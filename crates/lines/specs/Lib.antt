-- Lines that come in parts.
pub mod Kept
