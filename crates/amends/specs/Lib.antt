-- A correction, read and judged.
pub mod Righting
