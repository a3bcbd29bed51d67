-- Document 01, code 8, over a whole hand: each card lies at one place at most, in some seat's hole or on the board. Assumes nothing.
use Rattle.std.specs.Prelude.{ℕ, ◌+◌, ◌≤◌, List, [], ◌∷◌}
use Rattle.laws.specs.Often.{count}
use Rattle.chairs.specs.Chairs.{hole_of}
use Rattle.chairs.specs.declared.Chair.{Chair}

-- how often a card was entered for the seats
unfoldable pub held_times : ℕ → List Chair → ℕ
held_times k [] = 0
held_times k (c ∷ cs) = count k (hole_of c) + held_times k cs

-- for the seats and on the board together at most once
abbrev pub Once : List Chair → List ℕ → Type 0
Once cs board = (k : ℕ) → held_times k cs + count k board ≤ 1
