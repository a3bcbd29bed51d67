-- What the program `hands` reads and writes.
pub mod Answers
pub mod Lines
