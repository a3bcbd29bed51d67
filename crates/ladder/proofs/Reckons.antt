-- The closed form is the place on the ladder, for every hand: what stands on the ladder counts down along it, and what has a place by the closed form
-- stands on it. Assumes nothing.
use mathlib.Core.Path.{◌≡◌, sym, ap, ◌∙◌}
use mathlib.Core.Bool.{Bool, true, false, true≢false}
use mathlib.Core.Logic.{⊎_elim}
use mathlib.Core.List.Memᴰ
use mathlib.Core.List.{Memᴰ}
use Prim.Native.Nat.{ℕ, suc, ◌≤◌}
use native.Mathlib.Omega.{arith}
use native.Mathlib.Decide.{dec_lt}
use lib.ListN.{get_or}
use Rattle.laws.specs.Tests.{pick}
use Rattle.laws.specs.Often.{tally}
use Rattle.laws.proofs.Tests.{test}
use Rattle.cards.specs.Cards.{same_list}
use Rattle.cards.specs.declared.Hand.{Hand}
use Rattle.ladder.specs.Ladder.{ladder, listed, is_on, beats52, place_of}
use Rattle.ladder.specs.Reckoned.{reckoned_as, reckoned}
use Rattle.laws.proofs.Members.{same_list_law, list_same, some_has, has_some}
use Rattle.laws.proofs.Standing.{counted}
use Rattle.ladder.proofs.Laid.{ladder_length, hands_order, ladder_falls, reckoned_down}
use Rattle.ladder.proofs.Shapes.{on_ladder, no_class}

pub listed_same : (h g : Hand) → listed h ≡ listed g → h ≡ g
listed_same h g e = λ i. record {
  class = get_or (e i) 0 0;
  r1 = get_or (e i) 1 0;
  r2 = get_or (e i) 2 0;
  r3 = get_or (e i) 3 0;
  r4 = get_or (e i) 4 0;
  r5 = get_or (e i) 5 0;
}

pub is_on_law : (h : Hand) → is_on h ≡ true → Memᴰ h ladder
unfolding is_on
is_on_law h e =
    let t = some_has (λ (g : Hand). same_list (listed h) (listed g)) ladder e in
    Memᴰ.cast (listed_same h t.0 (same_list_law (listed h) (listed t.0) t.2)) t.1

on_is : (h : Hand) → Memᴰ h ladder → is_on h ≡ true
unfolding is_on
on_is h i = has_some (λ (g : Hand). same_list (listed h) (listed g)) h ladder i (list_same (listed h))

-- the place of what stands on the ladder: one more than how many stand below it
pub on_place : (h : Hand) → Memᴰ h ladder → place_of h ≡ suc (tally (beats52 h) ladder)
unfolding place_of
on_place h i = ap (λ (b : Bool). pick b (suc (tally (beats52 h) ladder)) 0) (on_is h i)

pub off_place : (h : Hand) → is_on h ≡ false → place_of h ≡ 0
unfolding place_of
off_place h e = ap (λ (b : Bool). pick b (suc (tally (beats52 h) ladder)) 0) e

on_reckoned : (h : Hand) → Memᴰ h ladder → reckoned h ≡ suc (tally (beats52 h) ladder)
on_reckoned h i = counted beats52 hands_order reckoned ladder 7462 (sym ladder_length) reckoned_down ladder_falls h i

off_reckoned : (h : Hand) → is_on h ≡ false → reckoned h ≡ 0
off_reckoned h e = elim (dec_lt 0 (reckoned h)) [
  | yes p ↦ absurd (true≢false (sym (on_is h (on_ladder h p)) ∙ e))
  | no p ↦ omega arith
]

pub reckons : (h : Hand) → reckoned h ≡ place_of h
reckons h =
    ⊎_elim
    (λ (e : is_on h ≡ true). on_reckoned h (is_on_law h e) ∙ sym (on_place h (is_on_law h e)))
    (λ (e : is_on h ≡ false). off_reckoned h e ∙ sym (off_place h e))
    (test (is_on h))

-- what the code has found for its class
pub place_is : (k : ℕ) (h : Hand) (r : ℕ) → h.class ≡ k → r ≡ reckoned_as k h → r ≡ place_of h
place_is k h r e q = q ∙ ap (λ (j : ℕ). reckoned_as j h) (sym e) ∙ reckons h

-- a class that is none of the nine
pub no_place : (h : Hand) → 9 ≤ h.class → 0 ≡ place_of h
no_place h most = sym (no_class h.class h (λ k l e. omega arith)) ∙ reckons h
