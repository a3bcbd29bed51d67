-- What a line of `pay`'s input says. REQUESTS No. 13: "first the tray, `rows=R`, then R times `worth`, `count`"; "only lines that begin `sitting=`, `paid=` or
-- `unclaimed=` are looked at (and `give=` where a proposal is awaited); every other line passes". Assumes nothing.
use Rattle.std.specs.Prelude.{ℕ, suc, false, List, [], ◌∷◌}
use Rattle.laws.specs.Tests.{pick}
use Rattle.text.specs.Line.{has_key, line_number}
use Rattle.text.specs.TableSheet.{is_value, value_in}
use Rattle.answers.specs.Answer.{key_sitting, key_paid, key_unclaimed}
use Rattle.teller.specs.declared.keys.Line.{Line}

abbrev pub key_give : List ℕ
key_give = 103 ∷ 105 ∷ 118 ∷ 101 ∷ []

abbrev pub key_rows : List ℕ
key_rows = 114 ∷ 111 ∷ 119 ∷ 115 ∷ []

abbrev pub key_worth : List ℕ
key_worth = 119 ∷ 111 ∷ 114 ∷ 116 ∷ 104 ∷ []

abbrev pub key_count : List ℕ
key_count = 99 ∷ 111 ∷ 117 ∷ 110 ∷ 116 ∷ []

-- the keys that are looked at: a line's kind is its key's place among them, and 7, behind them all, for any other line
abbrev pub keys : List (List ℕ)
keys = key_rows ∷ key_worth ∷ key_count ∷ key_sitting ∷ key_paid ∷ key_unclaimed ∷ key_give ∷ []

abbrev pub sitting_kind : ℕ
sitting_kind = 3

abbrev pub paid_kind : ℕ
paid_kind = 4

abbrev pub unclaimed_kind : ℕ
unclaimed_kind = 5

abbrev pub give_kind : ℕ
give_kind = 6

-- a line that is not looked at
abbrev pub other_line : Line
other_line = record { kind = 7; good = false; value = 0 }

-- a line with this key: whether its number is of good form, and the number
abbrev pub keyed_line : ℕ → List ℕ → List ℕ → Line
keyed_line kind key line = record { kind = kind; good = is_value (line_number key line); value = value_in (line_number key line) }

-- a line by the keys that are looked at from the kind k on
abbrev pub line_by : ℕ → List (List ℕ) → List ℕ → Line
line_by k [] line = other_line
line_by k (key ∷ rest) line = pick (has_key key line) (keyed_line k key line) (line_by (suc k) rest line)

-- what a line, with its LF, says
unfoldable pub said_of : List ℕ → Line
said_of line = line_by 0 keys line
