-- Laws of the second reader. Digits and Passing are general: nothing in them is about cards.

pub mod Digits
pub mod Passing
pub mod Counting
pub mod Plainly
pub mod Sevens
pub mod Fives
pub mod Rows
pub mod Dealt
pub mod Worth
pub mod Unsuited
pub mod Suited
pub mod Agree
pub mod Masked
pub mod Gathered
pub mod Firsts
