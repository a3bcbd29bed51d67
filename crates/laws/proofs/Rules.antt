-- A rule that a test computes: at each number below a bound, and at each entry of a table. Assumes nothing.
use mathlib.Core.Path.{◌≡◌, ap, ◌∙◌}
use mathlib.Core.Bool.{Bool, true}
use mathlib.Core.Logic.{⊎_elim}
use Prim.Native.Nat.{ℕ, zero, suc, ◌<◌}
use native.Mathlib.Nat.{eq-or-lt_of_le, le_of_suc-le-suc}
use native.Mathlib.Omega.{arith}
use Rattle.laws.specs.Tests.{both}
use Rattle.laws.proofs.Tests.{both_true}

-- a test that passes at each number below n
abbrev pub all_below : ℕ → (ℕ → Bool) → Bool
all_below zero f = true
all_below (suc n) f = both (f n) (all_below n f)

pub below_all : (n : ℕ) (f : ℕ → Bool) → all_below n f ≡ true → (k : ℕ) → k < n → f k ≡ true
below_all zero f e k h = absurd (omega arith)
below_all (suc n) f e k h =
    let p = both_true (f n) (all_below n f) e in
    ⊎_elim (λ q. ap f q ∙ p.0) (λ q. below_all n f p.1 k q) (eq-or-lt_of_le (le_of_suc-le-suc h))
