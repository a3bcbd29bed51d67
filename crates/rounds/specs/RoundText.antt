-- Request No. 14, the program `crown`: "blocks of sixteen lines", in document 01's text form; the numbers of a block and the round that they make. Assumes
-- nothing.
use Rattle.std.specs.Prelude.{Bool, true, List, [], ◌∷◌, map, ℕ, min, eqb, leb, get_or, Option, Err}
use Rattle.laws.specs.Tests.{both, either, pick}
use Rattle.text.specs.Line.{after_line, line_number}
use Rattle.text.specs.TableSheet.{is_value, value_in}
use Rattle.banked.specs.Rounds.{Outcome, outcome_of}
use Rattle.banked.specs.declared.Choice.{Choice}
use Rattle.banked.specs.declared.Choice.TheVariants.{Fold, Stay}
use Rattle.banked.specs.declared.Deal.{Deal}
use Rattle.banked.specs.declared.Round.{Round}
use Rattle.paper.specs.declared.refusal.Refusal.TheVariants.{OutOfRange}

-- the keys: ante, jackpot, extra (on the player's hand), dealer (extra on the dealer's), fold, turn, river, p1, p2, d1, d2, b1 to b5
abbrev pub keys : List (List ℕ)
keys =
    (97 ∷ 110 ∷ 116 ∷ 101 ∷ [])
    ∷ (106 ∷ 97 ∷ 99 ∷ 107 ∷ 112 ∷ 111 ∷ 116 ∷ [])
    ∷ (101 ∷ 120 ∷ 116 ∷ 114 ∷ 97 ∷ [])
    ∷ (100 ∷ 101 ∷ 97 ∷ 108 ∷ 101 ∷ 114 ∷ [])
    ∷ (102 ∷ 111 ∷ 108 ∷ 100 ∷ [])
    ∷ (116 ∷ 117 ∷ 114 ∷ 110 ∷ [])
    ∷ (114 ∷ 105 ∷ 118 ∷ 101 ∷ 114 ∷ [])
    ∷ (112 ∷ 49 ∷ [])
    ∷ (112 ∷ 50 ∷ [])
    ∷ (100 ∷ 49 ∷ [])
    ∷ (100 ∷ 50 ∷ [])
    ∷ (98 ∷ 49 ∷ [])
    ∷ (98 ∷ 50 ∷ [])
    ∷ (98 ∷ 51 ∷ [])
    ∷ (98 ∷ 52 ∷ [])
    ∷ (98 ∷ 53 ∷ [])
    ∷ []

-- the numbers of the lines at the front of a log, a line for each key; a line without its LF has none
unfoldable pub readings : List (List ℕ) → List ℕ → List (Option ℕ)
readings [] log = []
readings (key ∷ more) log = line_number key log ∷ readings more (after_line log)

abbrev pub all_values : List (Option ℕ) → Bool
all_values [] = true
all_values (x ∷ xs) = both (is_value x) (all_values xs)

-- the block's lines, keys and number forms are good
unfoldable pub good_form : List ℕ → Bool
good_form block = all_values (readings keys block)

unfoldable pub numbers_of : List ℕ → List ℕ
numbers_of block = map value_in (readings keys block)

-- "`fold`, `turn`, `river` (each 0 or 1; the last two 0 where `fold` is 1)"
unfoldable pub is_choice : ℕ → ℕ → ℕ → Bool
is_choice fold turn river = both (both (leb fold 1) (both (leb turn 1) (leb river 1))) (either (eqb fold 0) (both (eqb turn 0) (eqb river 0)))

unfoldable pub choice_of : ℕ → ℕ → ℕ → Choice
choice_of fold turn river = pick (eqb fold 1) Fold (Stay (eqb turn 1) (eqb river 1))

-- a card in a byte: a number that none holds is above 51, and so is 255
abbrev pub card_in : ℕ → ℕ
card_in n = min n 255

unfoldable pub deal_of : List ℕ → Deal
deal_of ns = record {
  p1 = card_in (get_or ns 7 0);
  p2 = card_in (get_or ns 8 0);
  d1 = card_in (get_or ns 9 0);
  d2 = card_in (get_or ns 10 0);
  b1 = card_in (get_or ns 11 0);
  b2 = card_in (get_or ns 12 0);
  b3 = card_in (get_or ns 13 0);
  b4 = card_in (get_or ns 14 0);
  b5 = card_in (get_or ns 15 0);
}

unfoldable pub round_of : List ℕ → Round
round_of ns = record {
  ante = get_or ns 0 0;
  jackpot = get_or ns 1 0;
  extra = get_or ns 2 0;
  dealer = get_or ns 3 0;
  choice = choice_of (get_or ns 4 0) (get_or ns 5 0) (get_or ns 6 0);
  deal = deal_of ns;
}

-- sixteen numbers judged: a fold, turn or river that is not so is outside its range, as any other number of code 2
unfoldable pub judged_of : List ℕ → Outcome
judged_of ns = pick (is_choice (get_or ns 4 0) (get_or ns 5 0) (get_or ns 6 0)) (outcome_of (round_of ns)) (Err OutOfRange)
