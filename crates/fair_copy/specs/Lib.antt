-- What the copier hears of a part.
pub mod Hearing
