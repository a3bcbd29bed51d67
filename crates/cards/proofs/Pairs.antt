-- Request No. 5: the search goes through the six pairs of four hole cards one after another, each with three of the board. Assumes nothing.
use mathlib.Core.Path.{◌≡◌, refl, sym, ap, ◌∙◌}
use mathlib.Core.List.{List, [], ◌∷◌, ◌++◌, map, map-append, map-map}
use Prim.Native.Nat.{ℕ, ◌+◌, ◌*◌, ◌/◌, ◌%◌, ◌<◌}
use native.Mathlib.Omega.{arith}
use lib.ListN.{length, get_or}
use Rattle.cards.specs.Hands.{value_of}
use Rattle.cards.specs.Order.{keep, choices, none, values_from, best_among}
use Rattle.cards.specs.Omaha.{each_before, from_both}
use Rattle.cards.specs.Packed.{digits, hand_in}
use Rattle.cards.specs.declared.Hand.{Hand}
use Rattle.cards.specs.declared.Ranking.{Ranking}
use Rattle.cards.proofs.Choices.{keep_append, choices_short}
use Rattle.cards.proofs.Searched.{no_hand_law}

-- two cards in one number
pub two_digits : (a b n : ℕ) → a < 256 → b < 256 → n ≡ a * 256 + b → digits 2 n ≡ a ∷ b ∷ []
unfolding digits
two_digits a b n p q e =
    let x : n / 256 % 256 ≡ a = omega arith in
    let y : n % 256 ≡ b = omega arith in
    rw (x, y) refl

-- a list of four, card by card
pub as_four : (l : List ℕ) → length l ≡ 4 → l ≡ get_or l 0 0 ∷ get_or l 1 0 ∷ get_or l 2 0 ∷ get_or l 3 0 ∷ []
as_four [] e = absurd (omega arith)
as_four (a ∷ []) e = absurd (omega arith)
as_four (a ∷ b ∷ []) e = absurd (omega arith)
as_four (a ∷ b ∷ c ∷ []) e = absurd (omega arith)
as_four (a ∷ b ∷ c ∷ d ∷ []) e = refl
as_four (a ∷ b ∷ c ∷ d ∷ x ∷ l) e = absurd (omega arith)

module _ (t : Ranking) (board : List ℕ) where
  -- a hand so far, and then some pairs
  abbrev pairs_on : Hand → List (List ℕ) → Hand
  pairs_on h ps = keep t h (map (value_of t) (each_before ps (choices 3 board)))

  -- the first of them, and then the others
  pair_on : (h g : Hand) (p : List ℕ) (ps : List (List ℕ)) → g ≡ keep t h (values_from t p 3 board) → pairs_on h (p ∷ ps) ≡ pairs_on g ps
  unfolding values_from
  pair_on h g p ps e =
      ap (keep t h) (map-append (value_of t) (map (λ q. p ++ q) (choices 3 board)) (each_before ps (choices 3 board)))
      ∙ ap (λ (hs : List Hand). keep t h (hs ++ map (value_of t) (each_before ps (choices 3 board)))) (map-map (value_of t) (λ q. p ++ q) (choices 3 board))
      ∙ keep_append t h (map (λ q. value_of t (p ++ q)) (choices 3 board)) (map (value_of t) (each_before ps (choices 3 board)))
      ∙ ap (λ (x : Hand). pairs_on x ps) (sym e)

  module _ (a b c d : ℕ) where
    abbrev last : List (List ℕ)
    last = (c ∷ d ∷ []) ∷ []

    abbrev third : List (List ℕ)
    third = (b ∷ c ∷ []) ∷ (b ∷ d ∷ []) ∷ last

    abbrev pairs : List (List ℕ)
    pairs = (a ∷ b ∷ []) ∷ (a ∷ c ∷ []) ∷ (a ∷ d ∷ []) ∷ third

    six-pairs : choices 2 (a ∷ b ∷ c ∷ d ∷ []) ≡ pairs
    unfolding choices
    six-pairs = refl

    pub found-both : {g1 g2 g3 g4 g5 g6 : Hand} → g1 ≡ keep t (hand_in 9895604649984) (values_from t (a ∷ b ∷ []) 3 board) → g2 ≡ keep t g1 (values_from t (a ∷ c ∷ []) 3 board)
        → g3 ≡ keep t g2 (values_from t (a ∷ d ∷ []) 3 board) → g4 ≡ keep t g3 (values_from t (b ∷ c ∷ []) 3 board) → g5 ≡ keep t g4 (values_from t (b ∷ d ∷ []) 3 board)
        → g6 ≡ keep t g5 (values_from t (c ∷ d ∷ []) 3 board) → g6 ≡ best_among t (from_both 2 3 (a ∷ b ∷ c ∷ d ∷ []) board)
    unfolding from_both keep
    found-both {g1} {g2} {g3} {g4} {g5} {g6} e1 e2 e3 e4 e5 e6 =
        sym
        (ap (λ (ps : List (List ℕ)). pairs_on none ps) six-pairs
        ∙ pair_on none g1 (a ∷ b ∷ []) ((a ∷ c ∷ []) ∷ (a ∷ d ∷ []) ∷ third) (e1 ∙ ap (λ (h : Hand). keep t h (values_from t (a ∷ b ∷ []) 3 board)) no_hand_law)
        ∙ pair_on g1 g2 (a ∷ c ∷ []) ((a ∷ d ∷ []) ∷ third) e2
        ∙ pair_on g2 g3 (a ∷ d ∷ []) third e3
        ∙ pair_on g3 g4 (b ∷ c ∷ []) ((b ∷ d ∷ []) ∷ last) e4
        ∙ pair_on g4 g5 (b ∷ d ∷ []) last e5
        ∙ pair_on g5 g6 (c ∷ d ∷ []) [] e6)

  -- with fewer than three on the board there is no hand
  pub found_few : (hole : List ℕ) {r : Hand} → length board < 3 → r ≡ hand_in 9895604649984 → r ≡ best_among t (from_both 2 3 hole board)
  unfolding from_both keep
  found_few hole h e = e ∙ no_hand_law ∙ sym (ap (λ (cs : List (List ℕ)). best_among t (each_before (choices 2 hole) cs)) (choices_short 3 board h) ∙ ap (best_among t) (nothing (choices 2 hole)))
    where
      nothing : (ps : List (List ℕ)) → each_before ps [] ≡ []
      nothing [] = refl
      nothing (p ∷ ps) = nothing ps
