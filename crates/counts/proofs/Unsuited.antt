-- Cards of which no five are of one suit: of the best by ranks alone and the highest straight, the better is the best of all choices of five. For any number of
-- cards. Assumes nothing.
use mathlib.Core.Path.{◌≡◌, sym, ap, ap₂, ◌∙◌, subst}
use mathlib.Core.Bool.{Bool, true, false, false≢true}
use mathlib.Core.Logic.{◌⊎◌, inl, inr, ⊎_elim}
use mathlib.Core.List.{List, ◌∷◌, map, Memᴰ}
use Prim.Native.Nat.{ℕ, ◌<◌, ◌≤◌}
use native.Mathlib.Omega.{arith}
use native.Mathlib.Decide.{dec_lt}
use lib.Dec.{ltb}
use lib.ListN.{length, length-map}
use borrow.Author.Tests.{lt-ltb, ltb-true}
use Rattle.laws.specs.Tests.{both, pick}
use Rattle.laws.proofs.Tests.{test, both_true}
use Rattle.laws.proofs.Often.{same_map}
use Rattle.cards.specs.Cards.{rank, lowered, in_row, ordered, one_suit}
use Rattle.cards.specs.Hands.{hand, value_of}
use Rattle.cards.specs.Order.{ranking52, beats_by, choices, best_of, Best}
use Rattle.cards.specs.declared.Hand.{Hand}
use Rattle.cards.proofs.Above.{beats_irrefl, unbeaten}
use Rattle.cards.proofs.Kept.{placed52}
use Rattle.cards.proofs.Only.{best_only}
use Rattle.cards.proofs.Mixed.{same_ordered}
use Rattle.cards.proofs.Mixing.{choice_within, within_choice}
use Rattle.counts.specs.HandOrder.{row_foot, rowed}
use Rattle.counts.proofs.Plainly.{plain_of, best_plain, plain_eight, plain_class, plain_top, choices_map}
use Rattle.counts.proofs.Fives.{drops_ordered, most_one, dropped_cards}
use Rattle.counts.proofs.Rows.{Ranks, rowed_row, straight_of, row_ranks}
use Rattle.counts.proofs.Worth.{compared, value_plain, value_straight, class_under, row_under}

-- of a hand and the straight down to k, the better; there is none down to 0
unfoldable pub or_straight : Hand → ℕ → Hand
or_straight h k = pick (both (ltb 0 k) (ltb 4 h.class)) (hand 4 (rowed k)) h

-- the ranks of a choice are a choice of the ranks
pub ranks_chosen : (l c : List ℕ) → Memᴰ c (choices 5 l) → Memᴰ (map rank c) (choices 5 (map rank l))
ranks_chosen l c i = subst (λ (ms : List (List ℕ)). Memᴰ (map rank c) ms) (sym (choices_map rank 5 l)) (mathlib.Core.List.Memᴰ.map (map rank) i)

module _ (l : List ℕ) (five : 5 ≤ length l) (ranks : Ranks (map rank l)) (no-suit : (c : List ℕ) → Memᴰ c (choices 5 l) → one_suit c ≡ false) where
  -- the best by ranks alone, and the foot of the highest row
  abbrev plain : Hand
  plain = best_plain (map rank l)

  abbrev foot : ℕ
  foot = row_foot (map rank l)

  ranks_best : Best ranking52 (map plain_of (choices 5 (map rank l))) plain
  ranks_best = plain_top (map rank l) (omega (arith, length-map l rank, five))

  -- a choice is worth what its ranks are, or is a straight that is not above the row found
  abbrev InARow : List ℕ → Type 0
  InARow c = (t : ℕ) × (0 < t) × (t ≤ foot) × (value_of ranking52 c ≡ hand 4 (rowed t)) × ((plain_of (map rank c)).class ≡ 8)

  kind : (c : List ℕ) → Memᴰ c (choices 5 l) → (value_of ranking52 c ≡ plain_of (map rank c)) ⊎ InARow c
  kind c i =
      ⊎_elim
      (λ (p : in_row (compared c) ≡ true).
      let w = choice_within 5 (map rank l) (map rank c) (ranks_chosen l c i) in
      let r = straight_of (map rank l) ranks (map rank c) w.1 w.0 p in
      inr (r.0, r.1, r.2, value_straight c (rowed r.0) p (no-suit c i) r.4 r.3, plain_eight (map rank c) r.4))
      (λ (p : in_row (compared c) ≡ false). inl (value_plain c p (no-suit c i)))
      (test (in_row (compared c)))

  -- no choice beats a hand that neither the best by ranks nor any straight up to the row found beats
  none_beats : (r : Hand) → beats_by ranking52 plain r ≡ false → ((t : ℕ) → 0 < t → t ≤ foot → beats_by ranking52 (hand 4 (rowed t)) r ≡ false)
      → (h : Hand) → Memᴰ h (map (value_of ranking52) (choices 5 l)) → beats_by ranking52 h r ≡ false
  none_beats r p s h i =
      let c = mathlib.Core.List.Memᴰ.of_map (value_of ranking52) (choices 5 l) i in
      subst (λ (v : Hand). beats_by ranking52 v r ≡ false) c.2
      (⊎_elim
      (λ (v : value_of ranking52 c.0 ≡ plain_of (map rank c.0)).
      subst (λ (w : Hand). beats_by ranking52 w r ≡ false) (sym v)
      (unbeaten ranking52 (plain_of (map rank c.0)) plain r (ranks_best.top (plain_of (map rank c.0)) (mathlib.Core.List.Memᴰ.map plain_of (ranks_chosen l c.0 c.1))) p))
      (λ (v : InARow c.0). subst (λ (w : Hand). beats_by ranking52 w r ≡ false) (sym v.3) (s v.0 v.1 v.2))
      (kind c.0 c.1))

  -- the choice of which the best by ranks is the worth
  plain_from : (c : List ℕ) × Memᴰ c (choices 5 l) × (plain_of (map rank c) ≡ plain)
  plain_from =
      let d = mathlib.Core.List.Memᴰ.of_map plain_of (choices 5 (map rank l)) ranks_best.among in
      let i : Memᴰ d.0 (map (map rank) (choices 5 l)) = subst (λ (ms : List (List ℕ)). Memᴰ d.0 ms) (choices_map rank 5 l) d.1 in
      let c = mathlib.Core.List.Memᴰ.of_map (map rank) (choices 5 l) i in
      (c.0, c.1, ap plain_of c.2 ∙ d.2)

  plain_is : (plain.class < 9) × (3 < plain.class → 4 < plain.class)
  plain_is = subst (λ (h : Hand). (h.class < 9) × (3 < h.class → 4 < h.class)) plain_from.2 (plain_class (map rank plain_from.0))

  -- where the best by ranks stands
  by_ranks : both (ltb 0 foot) (ltb 4 plain.class) ≡ false → Best ranking52 (map (value_of ranking52) (choices 5 l)) plain
  by_ranks p =
      let low : 0 < foot → plain.class ≤ 3 = λ q. elim (dec_lt 3 plain.class) [
        | yes h ↦ absurd (false≢true (sym p ∙ ap₂ both (lt-ltb 0 foot q) (lt-ltb 4 plain.class (plain_is.1 h))))
        | no h ↦ omega arith
      ] in
      record {
        among =
            ⊎_elim
            (λ (v : value_of ranking52 plain_from.0 ≡ plain_of (map rank plain_from.0)). mathlib.Core.List.Memᴰ.cast (sym (v ∙ plain_from.2)) (mathlib.Core.List.Memᴰ.map (value_of ranking52) plain_from.1))
            (λ (v : InARow plain_from.0).
            absurd (omega (arith, low (omega (arith, v.1, v.2)), v.4, ap (λ (h : Hand). h.class) plain_from.2)))
            (kind plain_from.0 plain_from.1);
        top = none_beats plain (beats_irrefl ranking52 plain) (λ t a b. class_under (hand 4 (rowed t)) plain (omega (arith, low (omega (arith, a, b)))) (omega arith));
      }

  -- five cards of the row found
  straight_from : 0 < foot → Memᴰ (hand 4 (rowed foot)) (map (value_of ranking52) (choices 5 l))
  straight_from p =
      let r = row_ranks (map rank l) ranks p in
      let ks = r.0 ∷ r.1 in
      let m = dropped_cards 20 ks l r.2 r.4 in
      let d = within_choice 5 l m.0 m.2 (sym (length-map m.0 rank) ∙ ap length m.1 ∙ r.3) in
      let o : ordered (map rank d.0) ≡ ks =
      sym (same_ordered (map rank m.0) (map rank d.0) (same_map rank m.0 d.0 d.2)) ∙ ap ordered m.1 ∙ drops_ordered 20 ks r.2 in
      let row : compared d.0 ≡ rowed foot = ap (lowered 2) o ∙ r.5 in
      let v : value_of ranking52 d.0 ≡ hand 4 (rowed foot) =
      value_straight d.0 (rowed foot) (ap in_row row ∙ rowed_row foot) (no-suit d.0 d.1) (most_one (map rank d.0) 20 r.0 r.1 o r.2) row in
      mathlib.Core.List.Memᴰ.cast (sym v) (mathlib.Core.List.Memᴰ.map (value_of ranking52) d.1)

  by_row : 0 < foot → 4 < plain.class → Best ranking52 (map (value_of ranking52) (choices 5 l)) (hand 4 (rowed foot))
  by_row p q = record {
    among = straight_from p;
    top = none_beats (hand 4 (rowed foot)) (class_under plain (hand 4 (rowed foot)) q plain_is.0) (λ t a b. row_under 4 t foot b);
  }

  pub unsuited_best : or_straight plain foot ≡ best_of ranking52 l
  unfolding or_straight
  unsuited_best =
      ⊎_elim
      (λ (p : both (ltb 0 foot) (ltb 4 plain.class) ≡ true).
      let q = both_true (ltb 0 foot) (ltb 4 plain.class) p in
      ap (λ (b : Bool). pick b (hand 4 (rowed foot)) plain) p
      ∙ best_only ranking52 placed52 l five (hand 4 (rowed foot)) (by_row (ltb-true 0 foot q.0) (ltb-true 4 plain.class q.1)))
      (λ (p : both (ltb 0 foot) (ltb 4 plain.class) ≡ false).
      ap (λ (b : Bool). pick b (hand 4 (rowed foot)) plain) p ∙ best_only ranking52 placed52 l five plain (by_ranks p))
      (test (both (ltb 0 foot) (ltb 4 plain.class)))
