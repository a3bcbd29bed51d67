-- What document 01's text form says of an entry: its block of five lines, and the entry that the block is.
pub mod Block
pub mod Entry
pub mod Codes
pub mod Front
