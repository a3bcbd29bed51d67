-- Laws of rounds in text.
pub mod Blocks
pub mod Lengths
pub mod Keeps
pub mod Heard
pub mod Whole
pub mod InPlace
