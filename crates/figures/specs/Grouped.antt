-- A number for a person: eleven columns, thousands grouped, right-aligned, as in "    999,999" and "          0".
use Rattle.std.specs.Prelude.{ℕ, ◌+◌, ◌-◌, ◌*◌, ◌/◌, ◌%◌, List, [], ◌∷◌, Bool, true, false, ltb}
use Rattle.laws.specs.Tests.{pick}
use Rattle.text.specs.Number.{is_digit}
use Rattle.figures.specs.Words.{bytes}

-- the digit of n that counts p's, for p = 10, 100, ..: blank where n is less
unfoldable pub placed_at : ℕ → ℕ → ℕ
placed_at n p = pick (ltb n p) 32 (48 + n / p % 10)

-- the comma behind the digit that counts p's, for p = 1,000 and 1,000,000: blank where n is less
unfoldable pub comma_at : ℕ → ℕ → ℕ
comma_at n p = pick (ltb n p) 32 44

unfoldable pub units_of : ℕ → ℕ
units_of n = 48 + n % 10

unfoldable pub grouped_of : ℕ → List ℕ
grouped_of n =
    placed_at n 100_000_000
    ∷ placed_at n 10_000_000
    ∷ placed_at n 1_000_000
    ∷ comma_at n 1_000_000
    ∷ placed_at n 100_000
    ∷ placed_at n 10_000
    ∷ placed_at n 1_000
    ∷ comma_at n 1_000
    ∷ placed_at n 100
    ∷ placed_at n 10
    ∷ units_of n
    ∷ []

-- a row's number column: blank where the row has no number
unfoldable pub column_of : Bool → ℕ → List ℕ
column_of true n = grouped_of n
column_of false n = bytes "           "

-- what a reader makes of a column: its digits, and nothing of what stands between them
abbrev pub read_from : ℕ → List ℕ → ℕ
read_from v [] = v
read_from v (b ∷ bs) = read_from (pick (is_digit b) (v * 10 + (b - 48)) v) bs
