-- Tests that hold both, either; a choice by a test. Assumes nothing.
use Rattle.std.specs.Prelude.{ℕ, Bool, true, false}

abbrev pub both : Bool → Bool → Bool
both true b = b
both false b = false

abbrev pub either : Bool → Bool → Bool
either true b = true
either false b = b

-- An `elim`'s cases wait, so a choice computes only the case that it takes.
abbrev pub pick {ℓ} : {A : Type ℓ} → Bool → A → A → A
pick true a b = a
pick false a b = b

abbrev pub one : Bool → ℕ
one true = 1
one false = 0
