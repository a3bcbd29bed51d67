-- Laws of two tables that share a pool.

pub mod Tables
