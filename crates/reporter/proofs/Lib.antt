-- A law about a block that is told.
pub mod Laws
