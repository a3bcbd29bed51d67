-- The picture of a hand's chips.
pub mod Columns
