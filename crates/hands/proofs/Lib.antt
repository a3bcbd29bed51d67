-- Laws for the program.
pub mod Written
pub mod Ended
