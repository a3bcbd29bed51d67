-- Whose turn it is, by both counts of live hands: over any number of chairs. Assumes nothing.
use Prim.Native.Nat.{ℕ, ◌≤◌, ◌<◌}
use mathlib.Core.List.{List}
use mathlib.Core.Path.{◌≡◌}
use native.Mathlib.Omega.{arith}
use lib.Dec.{leb}
use borrow.Author.Tests.{le-leb, lt-leb}
use Rattle.laws.specs.Tests.{pick}
use Rattle.chairs.specs.Chairs.{want_of, count_of, first_of, clockwise}
use Rattle.chairs.specs.declared.Chair.{Chair}
use Rattle.chairs.specs.Who.{Live, LiveWithChips, Owing}

module _ (cs : List Chair) (n m s h : ℕ) (a : h ≡ count_of (want_of Live) cs) where
  abbrev pub turn_of : ℕ
  turn_of = pick (leb 2 (count_of (want_of Live) cs)) (first_of (want_of (Owing m (leb (count_of (want_of LiveWithChips) cs) 1))) cs (clockwise n s)) 0

  pub turn_few : h < 2 → 0 ≡ turn_of
  turn_few l = rw (lt-leb 2 (count_of (want_of Live) cs) (omega (arith, a)))

  pub turn_many : (k : ℕ) → k ≡ count_of (want_of LiveWithChips) cs → (r : ℕ) → 2 ≤ h → r ≡ first_of (want_of (Owing m (leb k 1))) cs (clockwise n s) → r ≡ turn_of
  turn_many k b r l e = rw (le-leb 2 (count_of (want_of Live) cs) (omega (arith, a))) (rw b at e)
