-- The least wager that is shown is the least that Betting takes: where it is not 0 it is taken (`least_taken`), and whatever is taken is no less (`least_wager`), so
-- that none is where it is 0; where the lift is at least 1 and the seat has no more in this round than the mark, as while a hand is open. Assumes nothing.
use Prim.Native.Nat.{ℕ, ◌+◌, ◌-◌, ◌≤◌, ◌<◌, min}
use mathlib.Core.Bool.{Bool, true, false}
use mathlib.Core.Path.{◌≡◌, refl, sym, ap, ◌∙◌}
use mathlib.Core.Logic.{⊎_elim}
use native.Mathlib.Omega.{arith}
use lib.Dec.{eqb, leb, ltb}
use borrow.Author.Tests.{ltb-true, leb-true, eqb-true, lt-ltb, le-leb, eq-eqb}
use Rattle.laws.specs.Tests.{pick, both, either}
use Rattle.laws.proofs.Tests.{both_true, test}
use Rattle.laws.proofs.Sums.{le_or_lt}
use Rattle.chairs.specs.Chairs.{round_of}
use Rattle.chairs.specs.declared.Chair.{Chair}
use Rattle.table.specs.Betting.{may_raise, is_wager}
use Rattle.table.specs.declared.table.Table.{Table}
use Rattle.seen.specs.Seats.{least_for}

either_right : (b : Bool) → either b true ≡ true
either_right true = refl
either_right false = refl

module _ (t : Table) (c : Chair) (up : 0 < t.play.lift) (fair : round_of c ≤ t.play.mark) where
  abbrev mark : ℕ
  mark = t.play.mark

  abbrev full : ℕ
  full = t.play.mark + t.play.lift

  -- all that the seat can put in, and the tests of a wager
  abbrev all : ℕ
  all = round_of c + c.stack

  abbrev held : ℕ → Bool
  held a = leb (a - round_of c) c.stack

  abbrev whole : ℕ → Bool
  whole a = either (eqb (a - round_of c) c.stack) (leb full a)

  -- a wager that is taken is no less
  pub least_wager : (a : ℕ) → is_wager t c a ≡ true → (0 < least_for t.play c) × (least_for t.play c ≤ a)
  unfolding is_wager least_for
  least_wager a w =
      let p = both_true (may_raise c) (both (ltb mark a) (both (held a) (whole a))) w in
      let q = both_true (ltb mark a) (both (held a) (whole a)) p.1 in
      let r = both_true (held a) (whole a) q.1 in
      let above : mark < a = ltb-true _ _ q.0 in
      let within : a - round_of c ≤ c.stack = leb-true _ _ r.0 in
      let some : mark < all = omega arith in
      let high : min full all ≤ a =
      ⊎_elim (λ (e : eqb (a - round_of c) c.stack ≡ true). let z : a - round_of c ≡ c.stack = eqb-true _ _ e in omega arith)
      (λ (e : eqb (a - round_of c) c.stack ≡ false).
      let z : leb full a ≡ true = sym (ap (λ (b : Bool). either b (leb full a)) e) ∙ r.1 in
      let k : full ≤ a = leb-true _ _ z in
      omega arith)
      (test (eqb (a - round_of c) c.stack)) in
      rw (p.0, lt-ltb mark all some) (omega arith, high)

  taken : may_raise c ≡ true → mark < all → is_wager t c (min full all) ≡ true
  unfolding is_wager
  taken m s =
      let above : ltb mark (min full all) ≡ true = lt-ltb mark (min full all) (omega arith) in
      let within : leb (min full all - round_of c) c.stack ≡ true = le-leb (min full all - round_of c) c.stack (omega arith) in
      let last : whole (min full all) ≡ true =
      ⊎_elim
      (λ (e : full ≤ all). ap (λ (b : Bool). either (eqb (min full all - round_of c) c.stack) b) (le-leb full (min full all) (omega arith)) ∙ either_right (eqb (min full all - round_of c) c.stack))
      (λ (e : all < full). ap (λ (b : Bool). either b (leb full (min full all))) (eq-eqb (min full all - round_of c) c.stack (omega arith)))
      (le_or_lt full all) in
      rw (m, above, within) last

  -- where it is not 0 it is taken
  pub least_taken : 0 < least_for t.play c → is_wager t c (least_for t.play c) ≡ true
  unfolding least_for
  least_taken h = go (both (may_raise c) (ltb mark all)) refl h
    where
      go : (b : Bool) → both (may_raise c) (ltb mark all) ≡ b → 0 < pick b (min full all) 0 → is_wager t c (pick b (min full all) 0) ≡ true
      go true e k =
          let p = both_true (may_raise c) (ltb mark all) e in
          taken p.0 (ltb-true _ _ p.1)
      go false e k = absurd (omega arith)
