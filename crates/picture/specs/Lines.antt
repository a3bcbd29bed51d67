-- Which answer line a line is. Document 01, "The answer block": its keys, and the numbers that the box writes behind them; and request No. 7's key `jackpot`.
use Rattle.std.specs.Prelude.{ℕ, zero, suc, ◌+◌, ◌-◌, ◌≤◌, ◌<◌, ◌≡◌, List, [], ◌∷◌, length, get_or, eqb, leb, ltb, Option, Some, None}
use Rattle.laws.specs.Tests.{pick}
use Rattle.text.specs.Number.{number_of}
use Rattle.text.specs.Line.{value_of, number_line}
use Rattle.writing.specs.Nine.{nine_line}
use Rattle.figures.specs.Words.{bytes, refusals}
use Rattle.figures.specs.ScreenRow.{kind_jackpot}
use Rattle.picture.specs.declared.Line.{Line}

abbrev pub keys : List (List ℕ)
keys =
    bytes "n"
    ∷ bytes "code"
    ∷ bytes "turn"
    ∷ bytes "mark"
    ∷ bytes "pot"
    ∷ bytes "back"
    ∷ bytes "fee"
    ∷ bytes "sitting"
    ∷ bytes "paid"
    ∷ bytes "unclaimed"
    ∷ bytes "jackpot"
    ∷ []

-- how many kinds of line there are
abbrev pub line_kinds : ℕ
line_kinds = length keys

-- the greatest number behind each: there are the codes of the table and the seats 1 to 10; any other number has at most nine digits
abbrev pub mosts : List ℕ
mosts =
    999_999_999
    ∷ (refusals - 1)
    ∷ 10
    ∷ 999_999_999
    ∷ 999_999_999
    ∷ 999_999_999
    ∷ 999_999_999
    ∷ 999_999_999
    ∷ 999_999_999
    ∷ 999_999_999
    ∷ 999_999_999
    ∷ []

-- ---- the number behind a key

-- bytes without the zeros in front of them; the last byte is none of these
abbrev pub after_zeros : List ℕ → List ℕ
after_zeros [] = []
after_zeros (b ∷ []) = b ∷ []
after_zeros (b ∷ c ∷ bs) = pick (eqb b 48) (after_zeros (c ∷ bs)) (b ∷ c ∷ bs)

-- request No. 7: "always nine digits, zeros in front"
unfoldable pub nine_of : List ℕ → Option ℕ
nine_of bs = pick (eqb (length bs) 9) (number_of (after_zeros bs)) None

-- what stands behind the key of the k-th kind as a number
unfoldable pub number_as : ℕ → List ℕ → Option ℕ
number_as k bs = pick (eqb k kind_jackpot) (nine_of bs) (number_of bs)

-- the line of the k-th kind with the number v, as the box writes it
unfoldable pub line_written : ℕ → ℕ → List ℕ
line_written k v = pick (eqb k kind_jackpot) (nine_line (get_or keys k []) v) (number_line (get_or keys k []) v)

-- ---- what a line says

-- no answer line
abbrev pub no_line : Line
no_line = record { kind = line_kinds; value = 0 }

-- a number behind the key of the k-th kind
abbrev pub line_with : ℕ → ℕ → Option ℕ → Line
line_with k most (Some v) = pick (leb v most) (record { kind = k; value = v }) no_line
line_with k most None = no_line

-- a line (with its LF) as a line of the k-th kind
unfoldable pub line_at : ℕ → List ℕ → Line
line_at k bs = line_with k (get_or mosts k 0) (number_as k (value_of (get_or keys k []) bs))

-- the first kind from k on that the line is, of m kinds
abbrev pub line_from : ℕ → ℕ → List ℕ → Line
line_from zero k bs = no_line
line_from (suc m) k bs = pick (ltb (line_at k bs).kind line_kinds) (line_at k bs) (line_from m (k + 1) bs)

-- what a line says
unfoldable pub answer_line : List ℕ → Line
answer_line bs = line_from line_kinds 0 bs

-- the numbers that an answer line may have
pub record Answering (l : Line) : Type 0 where
  pub kind : l.kind ≤ line_kinds
  pub value : l.value ≤ 999_999_999
  pub code : l.kind ≡ 1 → l.value < refusals
  pub turn : l.kind ≡ 2 → l.value ≤ 10
