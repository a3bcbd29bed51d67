-- Request No. 7: "its stacks and all other lines too; only the `jackpot` number may differ". Bytes with the number of each `jackpot` line blanked: each byte behind
-- `jackpot=`, up to the LF, is a `0`; all other bytes stay, and so does the length. Assumes nothing.
use Rattle.std.specs.Prelude.{ℕ, not, List, [], ◌∷◌, ◌++◌, eqb}
use Rattle.laws.specs.Tests.{pick, both}
use Rattle.text.specs.Line.{has_key}
use Rattle.answers.specs.Answer.{key_jackpot}

-- a byte that stands behind these of its line
abbrev pub blank_at : List ℕ → ℕ → ℕ
blank_at line b = pick (both (has_key key_jackpot line) (not (eqb b 10))) 48 b

-- a line with one byte more; behind an LF the next one begins
abbrev pub line_with : List ℕ → ℕ → List ℕ
line_with line b = pick (eqb b 10) [] (line ++ (b ∷ []))

abbrev pub blanked_in : List ℕ → List ℕ → List ℕ
blanked_in line [] = []
blanked_in line (b ∷ bs) = blank_at line b ∷ blanked_in (line_with line b) bs

abbrev pub blanked : List ℕ → List ℕ
blanked bs = blanked_in [] bs
