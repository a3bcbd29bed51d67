-- Request No. 5, what rooms need of it: "Rooms have old logs: from here on `fair_copy` takes a good sheet that ends after its fifth or sixth line (a block begins there, or the input ends), writes today's
-- lines with `step=1`, `game=2` for what was missing, and says so on standard error; each later sheet line adds its row."
-- Requests No. 6 and No. 7: `deck=52`, `drop=0` likewise. Assumes nothing.
use Rattle.std.specs.Prelude.{ℕ, ◌-◌, List, [], ◌∷◌, ◌++◌, drop}
use Rattle.text.specs.Line.{number_line, after_lines}
use Rattle.text.specs.TableSheet.{sheet_keys}
use Rattle.logs.specs.LogText.{number_lines}

-- the lines of the first sheets, and the numbers that the later ones are meant with
abbrev pub first_lines : ℕ
first_lines = 5

abbrev pub later : List ℕ
later = 1 ∷ 2 ∷ 52 ∷ 0 ∷ []

-- the later lines as they are meant
unfoldable pub meant : List ℕ
meant = number_lines (drop first_lines sheet_keys) later

-- those that a sheet of k lines lacks
abbrev pub missing : ℕ → List ℕ
missing k = after_lines (k - first_lines) meant

-- ---- what is said: `added ` before each line that was added

abbrev pub added_of : List (List ℕ) → List ℕ → List ℕ
added_of [] vs = []
added_of (k ∷ ks) [] = []
added_of (k ∷ ks) (v ∷ vs) = (97 ∷ 100 ∷ 100 ∷ 101 ∷ 100 ∷ 32 ∷ []) ++ number_line k v ++ added_of ks vs

unfoldable pub added_lines : List ℕ
added_lines = added_of (drop first_lines sheet_keys) later

abbrev pub added : ℕ → List ℕ
added k = after_lines (k - first_lines) added_lines
