-- Two numbers are one below the other, or the same; two tests that pass together are the same; a test that is the last of several.
-- Assumes nothing.
use mathlib.Core.Path.{◌≡◌, refl, sym}
use mathlib.Core.Bool.{Bool, true, false}
use Prim.Native.Nat.{ℕ, ◌<◌}
use native.Mathlib.Omega.{arith}
use native.Mathlib.Decide.{dec_lt}
use Rattle.laws.specs.Tests.{both}

pub data Tri (x y : ℕ) : Type 0 where
  under : x < y → Tri x y
  level : x ≡ y → Tri x y
  over : y < x → Tri x y

pub tri : (x y : ℕ) → Tri x y
tri x y = elim (dec_lt x y) [ yes h ↦ under h | no n ↦ elim (dec_lt y x) [ yes h ↦ over h | no m ↦ level (omega arith) ] ]

pub same_test : (a b : Bool) → (a ≡ true → b ≡ true) → (b ≡ true → a ≡ true) → a ≡ b
same_test true b f g = sym (f refl)
same_test false true f g = g refl
same_test false false f g = refl

pub both_last : (b : Bool) → both b true ≡ b
both_last true = refl
both_last false = refl
