-- What the program keeps between two bytes.
pub mod Ready
