-- A law for the program.
pub mod Inside
