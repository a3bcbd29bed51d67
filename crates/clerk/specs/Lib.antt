-- What the clerk's desk hears of a part.
pub mod Hearing
