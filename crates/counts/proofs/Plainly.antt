-- Hands by ranks alone, straights and flushes aside: what five ranks are worth so, and the best of the choices of five of some ranks. It depends on the order
-- of the ranks alone: ranks carried over by a function that keeps the order strictly give the hand carried over. For any number of ranks. Assumes nothing.
use mathlib.Core.Path.{◌≡◌, refl, sym, ap, ap₂, ◌∙◌}
use mathlib.Core.Bool.{Bool, true, false, cond}
use mathlib.Core.List.{List, [], ◌∷◌, ◌++◌, map, map-append, map-map}
use Prim.Native.Nat.{ℕ, zero, suc, ◌<◌, ◌≤◌}
use native.Mathlib.Omega.{arith}
use lib.Dec.{eqb, ltb}
use lib.ListN.{length, get_or}
use borrow.Author.Tests.{lt-ltb, le-ltb}
use Rattle.laws.specs.Tests.{both, pick}
use Rattle.laws.proofs.Compare.{Tri, under, level, over, tri}
use Rattle.cards.specs.Cards.{ordered}
use Rattle.cards.specs.Hands.{first, hand, most_held, next_held, class_of}
use Rattle.cards.specs.Order.{ranking52, above, beats_by, better_by, keep, choices, none, Best}
use Rattle.cards.specs.declared.Hand.{Hand}
use Rattle.cards.proofs.Above.{higher}
use Rattle.cards.proofs.Kept.{class_below, kept_best, some_choice, placed52}
use Rattle.cards.proofs.Scaled.{same_eqb, carried_ordered, same_holdings, carried_at}
use Rattle.cards.proofs.Patterns.{Strict}

-- what five ranks are worth that are neither straight nor a flush
unfoldable pub plain_of : List ℕ → Hand
plain_of rs = hand (class_of false false (most_held rs) (next_held rs)) (ordered rs)

-- the best of the choices of five ranks
unfoldable pub best_plain : List ℕ → Hand
best_plain rs = keep ranking52 none (map plain_of (choices 5 rs))

-- the ranks held once give the lowest class
pub plain_eight : (rs : List ℕ) → most_held rs ≡ 1 → (plain_of rs).class ≡ 8
unfolding plain_of class_of
plain_eight rs o = ap (λ (m : ℕ). class_of false false m (next_held rs)) o

not_four : (a b : Bool) (m : List Bool) → 3 < first (false ∷ a ∷ b ∷ false ∷ false ∷ m) → 4 < first (false ∷ a ∷ b ∷ false ∷ false ∷ m)
not_four true b m h = absurd (omega arith)
not_four false true m h = absurd (omega arith)
not_four false false m h = omega arith

-- the class that is neither straight nor a flush is one of the nine, and not that of a straight
pub plain_class : (rs : List ℕ) → ((plain_of rs).class < 9) × (3 < (plain_of rs).class → 4 < (plain_of rs).class)
unfolding plain_of class_of
plain_class rs = (
  class_below false false (most_held rs) (next_held rs),
  λ h. not_four (eqb (most_held rs) 4) (both (eqb (most_held rs) 3) (eqb (next_held rs) 2))
      (eqb (most_held rs) 3 ∷ both (eqb (most_held rs) 2) (eqb (next_held rs) 2) ∷ eqb (most_held rs) 2 ∷ []) h,
)

-- the best of the choices of some ranks
pub plain_top : (rs : List ℕ) → 5 ≤ length rs → Best ranking52 (map plain_of (choices 5 rs)) (best_plain rs)
unfolding best_plain
plain_top rs h =
    let r = some_choice 5 rs h in
    rw r.2
    (kept_best ranking52 none (plain_of r.0) (map plain_of r.1) (higher _ _ _ _ (placed52.place (plain_of r.0).class (plain_class r.0).0)))

pub choices_map : (f : ℕ → ℕ) (k : ℕ) (l : List ℕ) → choices k (map f l) ≡ map (map f) (choices k l)
unfolding choices
choices_map f zero l = refl
choices_map f (suc k) [] = refl
choices_map f (suc k) (c ∷ l) =
    ap₂ ◌++◌
    (ap (map (λ m. f c ∷ m)) (choices_map f k l) ∙ map-map (λ m. f c ∷ m) (map f) (choices k l) ∙ sym (map-map (map f) (λ m. c ∷ m) (choices k l)))
    (choices_map f (suc k) l)
    ∙ sym (map-append (map f) (map (λ m. c ∷ m) (choices k l)) (choices (suc k) l))

-- a hand with each rank carried over
abbrev pub carried : (ℕ → ℕ) → Hand → Hand
carried f h = record { class = h.class; r1 = f h.r1; r2 = f h.r2; r3 = f h.r3; r4 = f h.r4; r5 = f h.r5 }

module _ (f : ℕ → ℕ) (stays : f 0 ≡ 0) (strict : Strict f) where
  pub same_ltb : (x y : ℕ) → ltb (f x) (f y) ≡ ltb x y
  same_ltb x y = go (tri x y)
    where
      go : Tri x y → ltb (f x) (f y) ≡ ltb x y
      go (under a) = lt-ltb (f x) (f y) (strict x y a) ∙ sym (lt-ltb x y a)
      go (level a) = le-ltb (f x) (f y) (omega (arith, ap f a)) ∙ sym (le-ltb x y (omega arith))
      go (over a) = le-ltb (f x) (f y) (omega (arith, strict y x a)) ∙ sym (le-ltb x y (omega arith))

  pub carried_hand : (k : ℕ) (l : List ℕ) → hand k (map f l) ≡ carried f (hand k l)
  carried_hand k l =
      let at : (i : ℕ) → get_or (map f l) i 0 ≡ f (get_or l i 0) = carried_at f stays strict l in
      rw (at 0, at 1, at 2, at 3, at 4)

  carried_plain : (rs : List ℕ) → plain_of (map f rs) ≡ carried f (plain_of rs)
  unfolding plain_of
  carried_plain rs =
      ap₂ hand (ap (λ (hs : List ℕ). class_of false false (get_or hs 0 0) (get_or hs (get_or hs 0 0) 0)) (same_holdings f stays strict rs)) (carried_ordered f stays strict rs)
      ∙ carried_hand (class_of false false (most_held rs) (next_held rs)) (ordered rs)

  same_above : (l m : List ℕ) → above (map f l) (map f m) ≡ above l m
  unfolding above
  same_above [] m = refl
  same_above (x ∷ l) [] = refl
  same_above (x ∷ l) (y ∷ m) = rw (same_eqb f stays strict x y, same_ltb y x, same_above l m)

  abbrev ranks_in : Hand → List ℕ
  ranks_in h = h.r1 ∷ h.r2 ∷ h.r3 ∷ h.r4 ∷ h.r5 ∷ []

  same_beats : (h g : Hand) → beats_by ranking52 (carried f h) (carried f g) ≡ beats_by ranking52 h g
  unfolding above
  same_beats h g =
      ap (λ (b : Bool). cond (eqb (get_or ranking52.places h.class 0) (get_or ranking52.places g.class 0)) b (ltb (get_or ranking52.places g.class 0) (get_or ranking52.places h.class 0)))
      (same_above (ranks_in h) (ranks_in g))

  pub carried_pick : (b : Bool) (h g : Hand) → pick b (carried f h) (carried f g) ≡ carried f (pick b h g)
  carried_pick true h g = refl
  carried_pick false h g = refl

  carried_better : (h g : Hand) → better_by ranking52 (carried f h) (carried f g) ≡ carried f (better_by ranking52 h g)
  unfolding better_by
  carried_better h g = ap (λ (b : Bool). pick b (carried f g) (carried f h)) (same_beats g h) ∙ carried_pick (beats_by ranking52 g h) g h

  carried_keep : (h : Hand) (gs : List Hand) → keep ranking52 (carried f h) (map (carried f) gs) ≡ carried f (keep ranking52 h gs)
  unfolding keep
  carried_keep h [] = refl
  carried_keep h (g ∷ gs) = ap (λ (v : Hand). keep ranking52 v (map (carried f) gs)) (carried_better h g) ∙ carried_keep (better_by ranking52 h g) gs

  carried_none : none ≡ carried f none
  carried_none = rw stays

  carried_plains : (ms : List (List ℕ)) → map plain_of (map (map f) ms) ≡ map (carried f) (map plain_of ms)
  carried_plains [] = refl
  carried_plains (m ∷ ms) = ap₂ ◌∷◌ (carried_plain m) (carried_plains ms)

  pub carried_best : (rs : List ℕ) → best_plain (map f rs) ≡ carried f (best_plain rs)
  unfolding best_plain
  carried_best rs =
      ap₂ (keep ranking52) carried_none (ap (map plain_of) (choices_map f 5 rs) ∙ carried_plains (choices 5 rs))
      ∙ carried_keep none (map plain_of (choices 5 rs))
