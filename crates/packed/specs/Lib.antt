-- The clerk in a maker's bytes.
pub mod Layout
pub mod Fits
