-- The input of two tables and its answers.
pub mod Pairs
pub mod Alone
