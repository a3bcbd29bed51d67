-- What five cards are worth, from their ranks and whether they are of one suit, by one number for each rank, which antt orders at once
-- (Weighed.antt: the order is that of the definitions). Assumes nothing.
use mathlib.Core.Path.{◌≡◌, sym, ap, ap₂, ◌∙◌}
use mathlib.Core.Bool.{Bool, true, false, true≢false}
use mathlib.Core.Logic.{⊎_elim}
use mathlib.Core.List.{List, [], ◌∷◌, map, Memᴰ}
use Prim.Native.Nat.{ℕ, ◌≤◌}
use native.Mathlib.Omega.{arith}
use lib.Dec.{ltb}
use lib.ListN.{get_or}
use borrow.Author.Tests.{ltb-false}
use Rattle.laws.specs.Lists.{All}
use Rattle.laws.proofs.Tests.{test}
use Rattle.cards.specs.Cards.{rank, ordered, lowered, in_row, one_suit}
use Rattle.cards.specs.Hands.{ranking52, hand, holdings, class_of, ranks_of, class_of_cards, value_of}
use Rattle.cards.specs.Falls.{fall}
use Rattle.places.specs.Weigh.{weigh, rank_in, times_in, SmallRanks}
use Rattle.cards.specs.Reading.{any_above}
use Rattle.cards.specs.declared.Hand.{Hand}
use Rattle.places.proofs.Weighed.{fall_ordered, ranks_ordered, times_ordered}
use Rattle.ladder.specs.Ladder.{worth52}
use Rattle.laws.proofs.Members.{at_all, has_some}

-- from the ranks in order, and how often each is held
unfoldable pub worth_as : Bool → List ℕ → List ℕ → Hand
worth_as flush os held = hand (class_of (in_row (lowered ranking52.foot os)) flush (get_or held 0 0) (get_or held (get_or held 0 0) 0)) (lowered ranking52.foot os)

-- by a number for each rank, from high to low
unfoldable pub worth_by : Bool → List ℕ → Hand
worth_by flush ws = worth_as flush (map rank_in ws) (map times_in ws)

unfoldable pub worth_of : Bool → List ℕ → Hand
worth_of flush rs = worth_by flush (fall (map (weigh rs) rs))

no_card_above : (l : List ℕ) → any_above l ≡ false → All (λ c. c ≤ 51) l
no_card_above l e = at_all (λ c. c ≤ 51) l below
  where
    below : (c : ℕ) → Memᴰ c l → c ≤ 51
    below c i =
        ⊎_elim
        (λ (q : ltb 51 c ≡ true). absurd (true≢false (sym (has_some (ltb 51) c l i q) ∙ e)))
        (λ (q : ltb 51 c ≡ false). ltb-false 51 c q)
        (test (ltb 51 c))

small_ranks : (l : List ℕ) → All (λ c. c ≤ 51) l → SmallRanks (map rank l)
small_ranks [] a = tt
small_ranks (c ∷ l) a = (omega (arith, a.0), small_ranks l a.1)

as_ordered : (flush : Bool) (rs : List ℕ) → SmallRanks rs → worth_as flush (ordered rs) (holdings rs) ≡ worth_of flush rs
unfolding worth_of worth_by
as_ordered flush rs s =
    ap₂ (worth_as flush) (sym (ranks_ordered rs s)) (sym (times_ordered rs s)) ∙ ap (λ (ws : List ℕ). worth_by flush ws) (sym (fall_ordered rs s))

pub worth_is : (cards : List ℕ) → any_above cards ≡ false → worth52 cards ≡ worth_of (one_suit cards) (map rank cards)
unfolding worth_as value_of class_of_cards ranks_of
worth_is cards e = as_ordered (one_suit cards) (map rank cards) (small_ranks cards (no_card_above cards e))
