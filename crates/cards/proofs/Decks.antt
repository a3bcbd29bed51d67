-- Request No. 6: what holds of the order of hands, shown once for any ranking and cited for both decks; the ace with the four lowest ranks is the lowest
-- straight, whatever the lowest rank; and what only the 32 cards have: no 5-4-3-2-A, and a flush above a full house. Assumes nothing.
use mathlib.Core.Path.{◌≡◌, refl, sym, ap, ◌∙◌, subst}
use mathlib.Core.Bool.{Bool, true, false, false≢true, ◌||◌}
use mathlib.Core.Logic.{◌↔◌}
use mathlib.Core.List.{List, [], ◌∷◌, map}
use Prim.Native.Nat.{ℕ, suc, ◌+◌, ◌≤◌}
use native.Mathlib.Omega.{arith}
use lib.Dec.{eqb, ltb}
use lib.ListN.{length, get_or}
use borrow.Author.Tests.{eqb-true, ltb-false}
use Rattle.laws.specs.Lists.{All}
use Rattle.laws.specs.Some.{some}
use Rattle.laws.proofs.Tests.{both_true}
use Rattle.laws.proofs.Often.{same_length}
use Rattle.cards.specs.Cards.{rank, ordered, is_wheel, lowered, in_row}
use Rattle.cards.specs.Hands.{ranks_of, class_of_cards, value_of}
use Rattle.cards.specs.Order.{ranking32, ranking_of, beats_by, best_of, choices, Best, Tie, Placed}
use Rattle.cards.specs.Reading.{any_outside}
use Rattle.cards.specs.declared.Hand.{Hand}
use Rattle.cards.specs.declared.Ranking.{Ranking}
use Rattle.cards.proofs.Above.{higher, equal, beats_trans, beats_asym, tie_iff}
use Rattle.cards.proofs.Kept.{best_of_best, placed_of}
use Rattle.cards.proofs.Ordered.{all_ordered}
use Rattle.cards.proofs.Sorted.{ordered_right}

-- what is asked of an order of hands
pub record Fair (t : Ranking) : Type 0 where
  pub trans : (h g f : Hand) → beats_by t h g ≡ true → beats_by t g f ≡ true → beats_by t h f ≡ true
  pub asym : (h g : Hand) → beats_by t h g ≡ true → beats_by t g h ≡ false
  -- "ties are exactly the pairs where neither wins"
  pub ties : (h g : Hand) → Tie t h g ↔ ((beats_by t h g ≡ false) × (beats_by t g h ≡ false))
  pub best : (cards : List ℕ) → 5 ≤ length cards → Best t (map (value_of t) (choices 5 cards)) (best_of t cards)

-- it holds of any ranking whose classes have places
pub fair : (t : Ranking) → Placed t → Fair t
fair t p = record { trans = beats_trans t; asym = beats_asym t; ties = tie_iff t; best = best_of_best t p }

-- and so of both decks
pub decks_fair : (deck : ℕ) → Fair (ranking_of deck)
decks_fair deck = fair (ranking_of deck) (placed_of deck)

-- five ranks in a row, none below the lowest: the first is four above it at least
row_first : (foot : ℕ) (l : List ℕ) → length l ≡ 5 → All (λ x. foot ≤ x) l → in_row l ≡ true → foot + 4 ≤ get_or l 0 0
unfolding in_row
row_first foot [] n s e = absurd (omega arith)
row_first foot (a ∷ []) n s e = absurd (omega arith)
row_first foot (a ∷ b ∷ []) n s e = absurd (omega arith)
row_first foot (a ∷ b ∷ c ∷ []) n s e = absurd (omega arith)
row_first foot (a ∷ b ∷ c ∷ d ∷ []) n s e = absurd (omega arith)
row_first foot (a ∷ b ∷ c ∷ d ∷ f ∷ l) n s e =
    let p = both_true (eqb a (b + 1)) (in_row (b ∷ c ∷ d ∷ f ∷ l)) e in
    let q = both_true (eqb b (c + 1)) (in_row (c ∷ d ∷ f ∷ l)) p.1 in
    let r = both_true (eqb c (d + 1)) (in_row (d ∷ f ∷ l)) q.1 in
    let v = both_true (eqb d (f + 1)) (in_row (f ∷ l)) r.1 in
    let low : foot ≤ f = s.1.1.1.1.0 in
    omega (arith, low, eqb-true a (b + 1) p.0, eqb-true b (c + 1) q.0, eqb-true c (d + 1) r.0, eqb-true d (f + 1) v.0)

module _ (t : Ranking) where
  wheel_first : (l : List ℕ) → is_wheel t.foot l ≡ true → get_or (lowered t.foot l) 0 0 ≡ t.foot + 3
  unfolding lowered
  wheel_first l e = rw e

  other_same : (l : List ℕ) → is_wheel t.foot l ≡ false → lowered t.foot l ≡ l
  unfolding lowered
  other_same l e = rw e

  -- "10-9-8-7-A as the lowest straight, which as a straight flush is the lowest of those too", for any lowest rank: of the hands in a row of a class the
  -- one with the ace below is beaten by every other
  pub low_straight : (a b : List ℕ) → length a ≡ 5 → All (λ r. t.foot ≤ r) (map rank a) → class_of_cards t.foot a ≡ class_of_cards t.foot b
      → in_row (ranks_of t.foot a) ≡ true → is_wheel t.foot (ordered (map rank a)) ≡ false → is_wheel t.foot (ordered (map rank b)) ≡ true
      → beats_by t (value_of t a) (value_of t b) ≡ true
  unfolding value_of ranks_of
  low_straight a b n s k row high low =
      let rs = map rank a in
      let f : t.foot + 4 ≤ get_or (lowered t.foot (ordered rs)) 0 0 =
      subst (λ (l : List ℕ). t.foot + 4 ≤ get_or l 0 0) (sym (other_same (ordered rs) high))
      (row_first t.foot (ordered rs) (same_length (ordered rs) rs (ordered_right rs).same ∙ map-length a ∙ n) (all_ordered (λ r. t.foot ≤ r) rs s)
      (subst (λ (l : List ℕ). in_row l ≡ true) (other_same (ordered rs) high) row)) in
      equal _ _ _ _ (ap (λ (j : ℕ). get_or t.places j 0) k) ∙ higher _ _ _ _ (omega (arith, f, wheel_first (ordered (map rank b)) low))
    where
      map-length : (l : List ℕ) → length (map rank l) ≡ length l
      map-length [] = refl
      map-length (x ∷ l) = ap suc (map-length l)

-- the ranks of the 32 cards go from seven
pub short_ranks : (cards : List ℕ) → any_outside 32 cards ≡ false → All (λ r. 7 ≤ r) (map rank cards)
unfolding some
short_ranks [] e = tt
short_ranks (c ∷ l) e = (omega (arith, ltb-false c 20 (low (ltb 51 c) (ltb c 20) (any_outside 32 l) e)), short_ranks l (rest (ltb 51 c) (ltb c 20) (any_outside 32 l) e))
  where
    low : (a b d : Bool) → ((a || b) || d) ≡ false → b ≡ false
    low false false d h = refl
    low false true d h = h
    low true b d h = absurd (false≢true (sym h))

    rest : (a b d : Bool) → ((a || b) || d) ≡ false → d ≡ false
    rest false false d h = h
    rest false true d h = absurd (false≢true (sym h))
    rest true b d h = absurd (false≢true (sym h))

-- "5-4-3-2-A can't occur": ranks of which none is below seven are never 14 5 4 3 2
pub no_wheel : (cards : List ℕ) → any_outside 32 cards ≡ false → is_wheel 2 (ordered (map rank cards)) ≡ false
unfolding is_wheel
no_wheel cards e = none (ordered (map rank cards)) (all_ordered (λ r. 7 ≤ r) (map rank cards) (short_ranks cards e)) (is_wheel 2 (ordered (map rank cards))) refl
  where
    none : (l : List ℕ) → All (λ r. 7 ≤ r) l → (b : Bool) → is_wheel 2 l ≡ b → is_wheel 2 l ≡ false
    none l s false h = h
    none [] s true h = absurd (false≢true h)
    none (x ∷ []) s true h = absurd (false≢true (both_true (eqb x 14) false h).1)
    none (x ∷ y ∷ l) s true h = absurd (omega (arith, s.1.0, eqb-true y 5 (both_true (eqb y 5) _ (both_true (eqb x 14) _ h).1).0))

-- "flush above full house"
pub flush_over_full : (a b : List ℕ) → (value_of ranking32 a).class ≡ 3 → (value_of ranking32 b).class ≡ 2 → beats_by ranking32 (value_of ranking32 a) (value_of ranking32 b) ≡ true
flush_over_full a b e f =
    let p : get_or ranking32.places (value_of ranking32 a).class 0 ≡ 7 = ap (λ (k : ℕ). get_or ranking32.places k 0) e in
    let q : get_or ranking32.places (value_of ranking32 b).class 0 ≡ 6 = ap (λ (k : ℕ). get_or ranking32.places k 0) f in
    higher _ _ _ _ (omega (arith, p, q))
