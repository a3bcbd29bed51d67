-- Source document 002, Tables 1 to 3: the payout rows, as constant columns by class beside `cards`' places (class 0 is the straight flush); the royal flush,
-- which is of class 0 too, stands apart. Assumes nothing.
use Rattle.std.specs.Prelude.{Bool, List, [], ◌∷◌, ℕ, eqb, get_or}
use Rattle.laws.specs.Tests.{pick}
use Rattle.banked.specs.Hands.{Hand, is_royal}

-- Table 3, Poker Extra Prize, so many to 1: Straight Flush 500, Four of a Kind 200, Full House 70, Flush 40, Straight 30, Three of a Kind 10, Two Pair 5. One
-- Pair and 5 Odd Cards are not listed: 0
abbrev pub extra_column : List ℕ
extra_column = 500 ∷ 200 ∷ 70 ∷ 40 ∷ 30 ∷ 10 ∷ 5 ∷ 0 ∷ 0 ∷ []

-- Table 3: Royal Flush 1,000 to 1
abbrev pub royal_odds : ℕ
royal_odds = 1000

-- Table 2, Bonus Prizes, so many times the wager: Four of a Kind 500, Full House 100, Flush 50, Straight 25. No other hand is listed there: 0
abbrev pub bonus_column : List ℕ
bonus_column = 0 ∷ 500 ∷ 100 ∷ 50 ∷ 25 ∷ 0 ∷ 0 ∷ 0 ∷ 0 ∷ []

unfoldable pub extra_odds : Hand → ℕ
extra_odds h = pick (is_royal h) royal_odds (get_or extra_column h.class 0)

unfoldable pub bonus_times : Hand → ℕ
bonus_times h = get_or bonus_column h.class 0

-- Table 1, Jackpot Prizes: Royal Flush and Straight Flush
abbrev pub in_table1 : Hand → Bool
in_table1 h = eqb h.class 0

-- the two tables as the document prints them, by the ten rows of 3.44's list from the royal flush down, 0 where a row is not listed (proofs/Tables: the columns
-- say the same)
abbrev pub table3 : List ℕ
table3 = 1000 ∷ 500 ∷ 200 ∷ 70 ∷ 40 ∷ 30 ∷ 10 ∷ 5 ∷ 0 ∷ 0 ∷ []

abbrev pub table2 : List ℕ
table2 = 0 ∷ 0 ∷ 500 ∷ 100 ∷ 50 ∷ 25 ∷ 0 ∷ 0 ∷ 0 ∷ 0 ∷ []
