-- The notes after each block of a log.
pub mod Telling
