-- What a writer does that goes on at a place of a lent sheet. Assumes nothing.
use Rattle.std.specs.Prelude.{ℕ, ◌+◌, ◌≤◌, ◌≡◌, List, ◌++◌, length, take, drop}

-- it wrote the bytes bs from the place at on into a sheet that was old and is new, and says which place is behind them
pub record Put (bs : List ℕ) (at : ℕ) (old new : List ℕ) (r : ℕ) : Type 0 where
  pub count : r ≡ at + length bs
  pub within : r ≤ length old
  pub sheet : new ≡ take at old ++ (bs ++ drop r old)
