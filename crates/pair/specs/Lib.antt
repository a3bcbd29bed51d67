-- What the two tables hear of a part.
pub mod Hearing
