-- What the picture of an answer block is.
pub mod Rows
pub mod Lines
pub mod Screen
pub mod Parts
