-- Document 01, "Refusal numbers": the paper's number for each case of the answers of this crate. Assumes nothing.
use Rattle.std.specs.Prelude.{ℕ, List, [], ◌∷◌, Result, Ok, Err}
use Rattle.paper.specs.declared.Sheet.{Sheet}
use Rattle.paper.specs.declared.refusal.Refusal.{Refusal}
use Rattle.paper.specs.RefusalNumbers.{taken}
use Rattle.paper.specs.Refusals.{number_of}

abbrev pub code_of_opening : Result Sheet Refusal → ℕ
code_of_opening (Ok s) = taken
code_of_opening (Err why) = number_of why

-- refusal 11, as it is written: "`code=11` and one LF" (proofs/Codes, `eleven_says`: the line of `codeOfOpening`'s number)
abbrev pub eleven : List ℕ
eleven = 99 ∷ 111 ∷ 100 ∷ 101 ∷ 61 ∷ 49 ∷ 49 ∷ 10 ∷ []
