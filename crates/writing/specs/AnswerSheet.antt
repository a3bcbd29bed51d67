-- Document 01, "The answer block": "Each line is written into the rest of the answer sheet behind the last; bytes beyond the block stay."
use Rattle.std.specs.Prelude.{ℕ, ◌≡◌, List, ◌++◌, Bool, length, drop, leb, Result, Ok, Err}
use Rattle.paper.specs.declared.refusal.Refusal.TheVariants.{NoRoom}
use Rattle.paper.specs.declared.refusal.Refusal.{Refusal}
use Rattle.laws.specs.Tests.{pick}

-- the sheet with the bytes bs at its front, and all behind them as it was
abbrev pub over : List ℕ → List ℕ → List ℕ
over bs sheet = bs ++ drop (length bs) sheet

-- what a writer has done: it wrote the bytes bs at the front of a sheet that was old and is new, and says how many
pub record Wrote (bs old new : List ℕ) (r : ℕ) : Type 0 where
  pub count : r ≡ length bs
  pub sheet : new ≡ over bs old

-- refusal 12: where the sheet is shorter than the bytes to be written, none of it changes
abbrev pub fits : List ℕ → List ℕ → Bool
fits bs sheet = leb (length bs) (length sheet)

abbrev pub sheet_after : List ℕ → List ℕ → List ℕ
sheet_after bs sheet = pick (fits bs sheet) (over bs sheet) sheet

abbrev pub written_of : List ℕ → List ℕ → Result ℕ Refusal
written_of bs sheet = pick (fits bs sheet) (Ok (length bs)) (Err NoRoom)
