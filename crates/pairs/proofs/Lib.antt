-- Laws of the input of two tables and its answers.

pub mod Runs
pub mod On
pub mod Alone
pub mod Hears
pub mod Gathers
