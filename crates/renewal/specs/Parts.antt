-- A part of a log renewed: what its bytes give one by one; and a log that comes in parts. Assumes nothing.
use Rattle.std.specs.Prelude.{ℕ, ◌≡◌, List, [], ◌∷◌, take}
pub use Rattle.laws.specs.Lists.{whole}
use Rattle.writing.specs.AnswerSheet.{Wrote}
use Rattle.renewal.specs.declared.Renewal.{Renewal}
use Rattle.renewal.specs.declared.Given.{Given}
use Rattle.renewal.specs.Renewing.{Step, still, and_then, given_of}

-- part after part
abbrev pub parts_given : Renewal → List (List ℕ) → Step
parts_given s [] = still s
parts_given s (p ∷ ps) = and_then (given_of s p) (parts_given (given_of s p).after ps)

-- what the bytes of a part that are used up give
abbrev pub given_by : Renewal → List ℕ → ℕ → Step
given_by s part used = given_of s (take used part)

-- what a call says and has written at the front of the sheet is what bytes lead to
pub record Gave (x : Step) (out out2 : List ℕ) (s : Renewal) (written : ℕ) : Type 0 where
  pub after : s ≡ x.after
  pub wrote : Wrote x.given out out2 written

-- the promise of a call: with the bytes that it used up it has given what they give one by one
abbrev pub GivenOn : Renewal → List ℕ → List ℕ → List ℕ → Given → Type 0
GivenOn s part out out2 r = Gave (given_by s part r.used) out out2 r.renewal r.written
