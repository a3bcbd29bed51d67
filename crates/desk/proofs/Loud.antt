-- Which kinds are not quiet. It stands apart from SamePots, so that a must-fail edit can turn the quiet kinds here and be refused there. Assumes nothing.
use mathlib.Core.Path.{◌≡◌}
use mathlib.Core.Bool.{false}
use Prim.Native.Nat.{ℕ, ◌≤◌}
use native.Mathlib.Omega.{arith}
use borrow.Author.Tests.{ne_eqb, le-ltb}
use Rattle.desk.specs.Quiet.{quiet_kind}

-- no later kind is quiet
pub loud : (k : ℕ) → 9 ≤ k → quiet_kind k ≡ false
loud k h = rw (le-ltb k 2 (omega arith), ne_eqb k 3 (λ e. omega arith), ne_eqb k 5 (λ e. omega arith), ne_eqb k 8 (λ e. omega arith))
