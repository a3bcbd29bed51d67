-- Where things stand in the picture of a hand's chips.
pub mod Spots
