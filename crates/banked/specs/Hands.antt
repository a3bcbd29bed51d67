-- Source document 002, 1.1: "Player's Hand", "Dealer's Hand", the cards of both; 3.44 and 3.45: the ranking of hands. All that this crate's definitions take
-- from `cards` stands here. Assumes nothing.
use Rattle.std.specs.Prelude.{Bool, List, [], ◌∷◌, ℕ, suc, eqb, leb}
use Rattle.laws.specs.Tests.{both, pick}
use Rattle.cards.specs.Hands.{value_of}
use Rattle.cards.specs.Order.{ranking52, best_of, beats_by}
use Rattle.cards.specs.Reading.{any_above, any_twice}
pub use Rattle.cards.specs.declared.Hand.{Hand}
use Rattle.banked.specs.declared.Deal.{Deal}
use Rattle.std.specs.declared.cmp.Ordering.{Ordering}
use Rattle.std.specs.declared.cmp.Ordering.TheVariants.{Less, Equal, Greater}

-- "Flop Cards means the first three Communal Cards drawn"
abbrev flop_cards : Deal → List ℕ
flop_cards d = d.b1 ∷ d.b2 ∷ d.b3 ∷ []

-- "Communal Cards means the cards dealt and placed in the middle of the table for all players and the Dealer to use to complete their hand"
abbrev communal_cards : Deal → List ℕ
communal_cards d = d.b1 ∷ d.b2 ∷ d.b3 ∷ d.b4 ∷ d.b5 ∷ []

-- the five of two hole cards and the flop cards
unfoldable pub flop_hand_of : ℕ → ℕ → Deal → Hand
flop_hand_of x y d = value_of ranking52 (x ∷ y ∷ flop_cards d)

-- the best five of two hole cards and the communal cards (4.11: "the highest ranked")
unfoldable pub hand_of : ℕ → ℕ → Deal → Hand
hand_of x y d = best_of ranking52 (x ∷ y ∷ communal_cards d)

-- "Player's Hand means a 5-card hand comprising of the player's Hole Cards (a) and the Flop Cards, to determine the outcome of a Jackpot Wager and the Player
-- Poker Extra Wager"
abbrev pub players_flop_hand : Deal → Hand
players_flop_hand d = flop_hand_of d.p1 d.p2 d

-- "or (b) and/or the Communal Cards for any other determination in this game"
abbrev pub players_hand : Deal → Hand
players_hand d = hand_of d.p1 d.p2 d

-- "Dealer's Hand means a 5-card hand comprising of the Dealer's Hole Cards (a) and the Flop Cards, to determine the outcome of the Dealer Poker Extra Wager"
abbrev pub dealers_flop_hand : Deal → Hand
dealers_flop_hand d = flop_hand_of d.d1 d.d2 d

-- "or (b) and/or the Communal Cards for any other determination in this game"
abbrev pub dealers_hand : Deal → Hand
dealers_hand d = hand_of d.d1 d.d2 d

-- the nine cards of a round
abbrev pub all_cards : Deal → List ℕ
all_cards d = d.p1 ∷ d.p2 ∷ d.d1 ∷ d.d2 ∷ communal_cards d

-- "a card above 51"
abbrev pub high_card : Deal → Bool
high_card d = any_above (all_cards d)

-- "a repeated card"
abbrev pub card_twice : Deal → Bool
card_twice d = any_twice (all_cards d)

-- one hand is ranked higher than another (3.44); "the suit of a card/s has no bearing" (3.45)
abbrev pub outranks : Hand → Hand → Bool
outranks h g = beats_by ranking52 h g

-- how the player's hand stands to the dealer's: equal is where neither is ranked higher
unfoldable pub standing_of : Hand → Hand → Ordering
standing_of player dealer = pick (outranks player dealer) Greater (pick (outranks dealer player) Less Equal)

-- "Royal Flush means a 5-card hand comprising of Ace, King, Queen, Jack and 10, of the same suit": the straight flush from the ace down
unfoldable pub is_royal : Hand → Bool
is_royal h = both (eqb h.class 0) (eqb h.r1 14)

-- 3.44's list of ten rankings, from the royal flush down: the row of a hand, counted from 0
unfoldable pub row_of_hand : Hand → ℕ
row_of_hand h = pick (is_royal h) 0 (suc h.class)

-- 3.6 (a): "is ranked as a Flush or higher": straight flush, four of a kind, full house, flush
unfoldable pub is_flush_or_higher : Hand → Bool
is_flush_or_higher h = leb h.class 3
