-- Request No. 7, "A jackpot pool for two tables": the pool, and its books over the hands of two tables.

pub mod Jackpot
pub mod Evening
