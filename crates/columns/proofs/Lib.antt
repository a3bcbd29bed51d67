-- The laws that the loops use, and the bands of a hand's pots.
pub mod Turns
pub mod Bands
