-- Laws for the picture.
pub mod Tables
pub mod Finds
pub mod Foreign
pub mod Steps
pub mod Zeros
pub mod Shown
pub mod Parts
