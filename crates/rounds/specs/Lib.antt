-- Rounds of Crown Hold'em in text.

pub mod RoundText
pub mod RoundAnswer
pub mod RoundParts
