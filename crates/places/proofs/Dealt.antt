-- Every hand of the ladder is what some five different cards are worth: five are dealt for each, and antt computes what they are worth.
-- Assumes nothing.
use mathlib.Core.Path.{◌≡◌, refl, sym, ◌∙◌}
use mathlib.Core.Bool.{Bool, true, not}
use mathlib.Core.List.{List, [], ◌∷◌, map, Memᴰ}
use Prim.Native.Nat.{ℕ, ◌+◌, ◌*◌, ◌-◌}
use lib.Dec.{eqb}
use borrow.Author.Tests.{not-true}
use Rattle.laws.specs.Tests.{both, either, pick}
use Rattle.laws.specs.Some.{some}
use Rattle.laws.proofs.Tests.{both_true}
use Rattle.cards.specs.Cards.{rank, same_list, is_wheel, lowered, in_row, all_alike, one_suit}
use Rattle.cards.specs.Hands.{class_of}
use Rattle.cards.specs.Falls.{fall}
use Rattle.places.specs.Weigh.{weigh}
use Rattle.cards.specs.Order.{choices}
use Rattle.cards.specs.Reading.{any_above, any_twice}
use Rattle.cards.specs.declared.Hand.{Hand}
use Rattle.ladder.specs.Ladder.{ladder, listed, Valid}
use Rattle.laws.proofs.Members.{all_pass, pass_at, same_list_law}
use Rattle.places.proofs.Worth.{worth_as, worth_by, worth_of, worth_is}
use Rattle.ladder.proofs.Reckons.{listed_same}

-- the card of a rank and a suit; the lowest rank of 5-4-3-2-A is the ace's
abbrev card_of : ℕ → ℕ → ℕ
card_of r s = 4 * (pick (eqb r 1) 14 r - 2) + s

-- a suit, but for a flush the first
abbrev suit_for : Hand → ℕ → ℕ
suit_for h s = pick (either (eqb h.class 0) (eqb h.class 3)) 0 s

abbrev pub dealt_for : Hand → List ℕ
dealt_for h = card_of h.r1 0 ∷ card_of h.r2 (suit_for h 1) ∷ card_of h.r3 (suit_for h 2) ∷ card_of h.r4 (suit_for h 3) ∷ card_of h.r5 0 ∷ []

-- they are worth the hand, none is above 51 and none comes twice
abbrev is_dealt : Hand → List ℕ → Bool
is_dealt h cards = both (same_list (listed h) (listed (worth_of (one_suit cards) (map rank cards)))) (both (not (any_above cards)) (not (any_twice cards)))

all_dealt : all_pass (λ h. let cards = dealt_for h in is_dealt h cards) ladder ≡ true
unfolding ladder choices some worth_of worth_by worth_as weigh fall is_wheel lowered in_row all_alike one_suit class_of
all_dealt = refl

pub dealt : (h : Hand) → Memᴰ h ladder → Valid h
dealt h i =
    let cards = dealt_for h in
    let worth = worth_of (one_suit cards) (map rank cards) in
    let p = both_true (same_list (listed h) (listed worth)) (both (not (any_above cards)) (not (any_twice cards))) (pass_at (λ g. is_dealt g (dealt_for g)) h ladder all_dealt i) in
    let q = both_true (not (any_above cards)) (not (any_twice cards)) p.1 in
    let above = not-true (any_above cards) q.0 in
    (cards, (refl, above, not-true (any_twice cards) q.1), listed_same h worth (same_list_law (listed h) (listed worth) p.0) ∙ sym (worth_is cards above))
