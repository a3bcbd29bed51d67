-- Laws of the ladder.

pub mod Steps
pub mod Laid
pub mod Shapes
pub mod Reckons
pub mod Showdown
