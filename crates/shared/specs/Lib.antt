-- Request No. 7: a block at a table that shares a jackpot pool.
pub mod Shared
