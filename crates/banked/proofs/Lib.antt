-- Laws of a round.

pub mod Tables
pub mod Codes
pub mod Folds
pub mod ZeroSum
