-- What source document 002 says of a round of Crown Hold'em: the two hands, the payout tables, the fate of each wager, the books, the round.

pub mod Hands
pub mod Payouts
pub mod Fates
pub mod Books
pub mod Rounds
