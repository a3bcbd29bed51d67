-- A law for the programs' loops.
pub mod Rest
