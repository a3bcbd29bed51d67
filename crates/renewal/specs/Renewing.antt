-- A log with today's sheet, byte by byte: where a sheet ends after its fifth line or a later one and lacks lines, those that it lacks are given there. Whether a block begins behind
-- a line is known at its second byte, so an `n` that comes first is held back until then. Assumes nothing.
use Rattle.std.specs.Prelude.{ℕ, ◌+◌, ◌<◌, ◌≡◌, List, [], ◌∷◌, ◌++◌, Bool, true, false, not, length, eqb, leb}
use Rattle.laws.specs.Tests.{pick, both}
use Rattle.text.specs.TableSheet.{sheet_lines}
use Rattle.renewal.specs.declared.Renewal.{Renewal}
use Rattle.renewal.specs.OldSheets.{first_lines, meant, missing}

-- what bytes lead to: the renewal after them, and what is given for them
pub record Step : Type 0 where
  pub after : Renewal
  pub given : List ℕ

abbrev pub gives : Renewal → List ℕ → Step
gives s bs = record { after = s; given = bs }

-- ---- the places of a sheet

-- behind n whole lines, before the first byte of the next; behind all of a sheet's lines it is done
abbrev pub behind_lines : ℕ → Renewal
behind_lines n = record { lines = n; begun = false; held = false; done = leb sheet_lines n }

-- in the line behind n others
abbrev pub in_line : ℕ → Renewal
in_line n = record { lines = n; begun = true; held = false; done = false }

-- there, with an `n` at its beginning held back
abbrev pub holding : ℕ → Renewal
holding n = record { lines = n; begun = true; held = true; done = false }

-- the sheet has ended after n lines
abbrev pub ended_after : ℕ → Renewal
ended_after n = record { lines = n; begun = false; held = false; done = true }

-- a byte of the line behind n others: an LF ends the line
abbrev pub onward_of : ℕ → ℕ → Renewal
onward_of n b = pick (eqb b 10) (behind_lines (n + 1)) (in_line n)

-- an old sheet may end here: at a line's beginning, behind at least the first lines
abbrev pub may_end : Renewal → Bool
may_end s = both (not s.begun) (leb first_lines s.lines)

-- ---- byte by byte

-- the byte behind a held `n`: with `=` a block begins, and the sheet has ended before it
abbrev pub held_step : ℕ → ℕ → Step
held_step n b = pick (eqb b 61) (gives (ended_after n) (missing n ++ (110 ∷ 61 ∷ []))) (gives (onward_of n b) (110 ∷ b ∷ []))

-- another byte of the sheet
abbrev pub sheet_step : Renewal → ℕ → Step
sheet_step s b = pick (both (may_end s) (eqb b 110)) (gives (holding s.lines) []) (gives (onward_of s.lines b) (b ∷ []))

-- behind the sheet every byte passes
unfoldable pub step_of : Renewal → ℕ → Step
step_of s b = pick s.done (gives s (b ∷ [])) (pick s.held (held_step s.lines b) (sheet_step s b))

-- the input has ended: so has a sheet that may end there
unfoldable pub close_of : Renewal → Step
close_of s =
    pick s.done (gives s [])
    (pick s.held (gives (in_line s.lines) (110 ∷ []))
    (pick (may_end s) (gives (ended_after s.lines) (missing s.lines)) (gives s [])))

abbrev pub still : Renewal → Step
still s = gives s []

abbrev pub and_then : Step → Step → Step
and_then x y = record { after = y.after; given = x.given ++ y.given }

abbrev pub given_of : Renewal → List ℕ → Step
given_of s [] = still s
given_of s (b ∷ bs) = and_then (step_of s b) (given_of (step_of s b).after bs)

-- ---- the whole log

-- before the first byte
abbrev pub start_of : Renewal
start_of = behind_lines 0

abbrev pub closed : Step → Step
closed x = and_then x (close_of x.after)

-- the log with today's sheet
unfoldable pub renewed : List ℕ → List ℕ
renewed log = (closed (given_of start_of log)).given

-- a renewal that is not done has read fewer lines than a sheet has
pub record InSheet (s : Renewal) : Type 0 where
  pub within : s.done ≡ false → s.lines < sheet_lines

-- no byte gives more, nor does the close
abbrev pub given_most : ℕ
given_most = length meant + 2
