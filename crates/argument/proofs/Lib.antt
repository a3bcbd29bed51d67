-- Laws of words.
pub mod Words
