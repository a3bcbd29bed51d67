-- Laws of the input of two tables, cut as it comes.

pub mod Onward
pub mod Nexts
