-- The theorems about two tables that share a pool.

pub mod Blanks
pub mod Answers
pub mod Order
pub mod Tables
pub mod Alone
pub mod Books
pub mod Drops
pub mod House
pub mod Rooms
