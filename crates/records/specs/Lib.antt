-- Records, rows and the reader of a stored log.
pub mod Bytes
pub mod Stored
pub mod Reading
