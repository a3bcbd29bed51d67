-- A number that no arm of a match names is the one that is left. Assumes nothing.
use mathlib.Core.Path.{◌≡◌}
use Prim.Native.Nat.{ℕ, ◌+◌, ◌≤◌, ◌<◌}
use native.Mathlib.Omega.{arith}

-- a number that is at least m and is not m is at least the next
pub past : (k m : ℕ) → m ≤ k → (k ≡ m → ⊥) → m + 1 ≤ k
past k m h n = omega arith

pub only : (k m : ℕ) → m ≤ k → k < m + 1 → k ≡ m
only k m h n = omega arith
