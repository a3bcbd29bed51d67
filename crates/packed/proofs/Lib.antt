-- The clerk in a maker's bytes: what is proved of it.
pub mod Rows
pub mod Read
pub mod Again
