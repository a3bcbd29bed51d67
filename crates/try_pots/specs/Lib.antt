-- What the program `try_pots` reads, and what it asks.
pub mod Numbers
pub mod MadeHands
