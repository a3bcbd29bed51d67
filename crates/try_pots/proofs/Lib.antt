-- Laws for the program.
pub mod Scanned
pub mod Made
