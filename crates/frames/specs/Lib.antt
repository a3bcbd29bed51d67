-- What the input of two tables is cut into.
pub mod Frames
