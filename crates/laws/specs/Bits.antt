-- Masks: bit i of a number stands for place i of a list. Assumes nothing.
use Rattle.std.specs.Prelude.{ℕ, zero, suc, ◌+◌, ◌/◌, ◌%◌}

-- bit i of a mask, 0 or 1
abbrev pub bit_at : ℕ → ℕ → ℕ
bit_at m zero = m % 2
bit_at m (suc i) = bit_at (m / 2) i

-- how many of the n lowest bits of a mask are ones
unfoldable pub ones : ℕ → ℕ → ℕ
ones zero m = 0
ones (suc n) m = m % 2 + ones n (m / 2)
