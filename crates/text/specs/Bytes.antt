-- Document 01, "The table sheet and the entries": its digits and its small letters are bytes within a range. Assumes nothing.
use Rattle.std.specs.Prelude.{ℕ, ◌+◌, ◌*◌, List, [], ◌∷◌, Bool, true}
use Rattle.laws.specs.Tests.{both}
use Rattle.paper.specs.SheetAndEntries.{between}

-- each byte is within lo to hi
abbrev pub all_within : ℕ → ℕ → List ℕ → Bool
all_within lo hi [] = true
all_within lo hi (b ∷ bs) = both (between lo hi b) (all_within lo hi bs)

-- bytes as one number, the first byte the lowest: so the words of the kinds are compared at one go
abbrev pub pack_of : List ℕ → ℕ
pack_of [] = 0
pack_of (b ∷ bs) = pack_of bs * 256 + b
