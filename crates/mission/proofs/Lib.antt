-- The mission's sentences.

pub mod Someone
pub mod Taken
pub mod DoesHand
pub mod Does
pub mod Settled
pub mod Answers
pub mod Same
pub mod Winners
pub mod Unclaimed
pub mod Examples
pub mod Reached
pub mod Written
pub mod Payout
pub mod Demands
pub mod Box
pub mod Room
