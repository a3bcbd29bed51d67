-- Laws of a block at a table that shares a pool.
pub mod Laws
pub mod Room
