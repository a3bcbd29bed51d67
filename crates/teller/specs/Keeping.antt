-- What `pay` keeps between two lines: the tray, the sittings listed since the last `unclaimed`, and what is due. REQUESTS No. 13: "first the tray, `rows=R`, then R times
-- `worth`, `count` (a fault here: `code=2` and the end)"; "`sitting` and `paid` that don't alternate, or a number of bad form in one of the three, give `code=2` at that
-- `unclaimed`; so do more than ten sittings"; "The listed sittings start anew behind each `unclaimed`"; "a `give=` line with a bad number belongs to the proposal (2)".
-- Assumes nothing.
use Rattle.std.specs.Prelude.{ℕ, ◌+◌, ◌≤◌, ◌<◌, ◌^◌, min, Bool, true, false, not, List, get_or, set, replicate, eqb, leb, ltb}
use Rattle.laws.specs.Tests.{both, either, pick}
use Rattle.tray.specs.Proposal.{most_rows, most_sittings, most_worth, most_count}
use Rattle.rows.specs.declared.Row.{Row}
use Rattle.rows.specs.Rows.{no_row}
use Rattle.teller.specs.declared.keys.Line.{Line}
use Rattle.teller.specs.declared.state.Tray.{Tray}
use Rattle.teller.specs.declared.state.Listed.{Listed}
use Rattle.teller.specs.declared.state.Teller.{Teller}
use Rattle.teller.specs.Lines.{sitting_kind, paid_kind, unclaimed_kind}

-- what is due: the tray's lines, by their kinds; the lines of answers; a proposal's; nothing more, since the tray has a fault
abbrev pub rows_due : ℕ
rows_due = 0

abbrev pub worth_due : ℕ
worth_due = 1

abbrev pub count_due : ℕ
count_due = 2

abbrev pub answers_due : ℕ
answers_due = 3

abbrev pub proposal_due : ℕ
proposal_due = 4

abbrev pub fault_due : ℕ
fault_due = 5

-- no sitting is listed
abbrev pub none_listed : Listed
none_listed = record { count = 0; half = false; bad = false; sittings = replicate most_sittings 0; paid = replicate most_sittings 0 }

-- before the first line
abbrev pub started : Teller
started = record {
  due = rows_due;
  given = 0;
  tray = record { rows = 0; read = 0; worth = 0; row = replicate most_rows no_row };
  listed = none_listed;
}

-- ---- the tray's lines
abbrev pub with_tray : Teller → ℕ → Tray → Teller
with_tray s due t = record { due = due; given = s.given; tray = t; listed = s.listed }

-- what is due behind so many of so many rows
abbrev pub due_after : ℕ → ℕ → ℕ
due_after read rows = pick (ltb read rows) worth_due answers_due

-- a number of the tray's line that is due is within its bounds
abbrev pub within_due : ℕ → ℕ → Bool
within_due due v = pick (eqb due rows_due) (leb v most_rows) (pick (eqb due worth_due) (both (leb 1 v) (leb v most_worth)) (leb v most_count))

-- the line is the tray's line that is due, and good
abbrev pub fits_due : ℕ → Line → Bool
fits_due due l = both l.good (both (eqb l.kind due) (within_due due l.value))

-- its number is taken
unfoldable pub taken_due : Teller → ℕ → Teller
taken_due s v =
    pick (eqb s.due rows_due)
    (with_tray s (due_after 0 v) (record { rows = v; read = s.tray.read; worth = s.tray.worth; row = s.tray.row }))
    (pick (eqb s.due worth_due)
    (with_tray s count_due (record { rows = s.tray.rows; read = s.tray.read; worth = v; row = s.tray.row }))
    (with_tray s (due_after (min (s.tray.read + 1) most_rows) s.tray.rows) (record {
      rows = s.tray.rows;
      read = min (s.tray.read + 1) most_rows;
      worth = s.tray.worth;
      row = set s.tray.row s.tray.read (record { worth = s.tray.worth; count = v });
    })))

-- a line where a line of the tray is due: any other than that one is a fault
unfoldable pub tray_line : Teller → Line → Teller
tray_line s l = pick (fits_due s.due l) (taken_due s l.value) (with_tray s fault_due s.tray)

-- ---- the lines of answers
-- something was wrong, or is wrong now
abbrev pub now_bad : Listed → Bool → Line → Bool
now_bad x wrong l = either x.bad (either wrong (not l.good))

-- a sitting, where none waits for its `paid`
abbrev pub sitting_line : Listed → Line → Listed
sitting_line x l = record { count = x.count; half = true; bad = now_bad x x.half l; sittings = set x.sittings x.count l.value; paid = x.paid }

-- what the sitting that waits is paid; at most eleven are counted
abbrev pub paid_line : Listed → Line → Listed
paid_line x l =
    record { count = min (x.count + 1) 11; half = false; bad = now_bad x (not x.half) l; sittings = x.sittings; paid = set x.paid x.count l.value }

-- the end of a block: no sitting may wait
abbrev pub unclaimed_line : Listed → Line → Listed
unclaimed_line x l = record { count = x.count; half = x.half; bad = now_bad x x.half l; sittings = x.sittings; paid = x.paid }

abbrev pub listing : Teller → ℕ → Listed → Teller
listing s due x = record { due = due; given = 0; tray = s.tray; listed = x }

-- a line where answers are due: at an `unclaimed` the payment is due
unfoldable pub answer_line : Teller → Line → Teller
answer_line s l =
    pick (eqb l.kind sitting_kind) (listing s answers_due (sitting_line s.listed l))
    (pick (eqb l.kind paid_kind) (listing s answers_due (paid_line s.listed l))
    (pick (eqb l.kind unclaimed_kind) (listing s proposal_due (unclaimed_line s.listed l))
    s))

-- a `give` line of a proposal; at most 161 are counted, and no proposal is so long
unfoldable pub give_line : Teller → Line → Teller
give_line s l =
    record {
      due = s.due;
      given = min (s.given + 1) 161;
      tray = s.tray;
      listed = record { count = s.listed.count; half = s.listed.half; bad = now_bad s.listed false l; sittings = s.listed.sittings; paid = s.listed.paid };
    }

-- the listed sittings can't be paid: something was wrong, or they are too many
abbrev pub faulty : Listed → Bool
faulty x = either x.bad (ltb most_sittings x.count)

-- behind a block that was answered, with these rows
abbrev pub anew : Teller → List Row → Teller
anew s row = record { due = answers_due; given = 0; tray = record { rows = s.tray.rows; read = s.tray.read; worth = s.tray.worth; row = row }; listed = none_listed }

-- ---- what holds at every line: the tray has at most sixteen rows, and every number that may be written has at most nine digits
pub record SmallRow (r : Row) : Type 0 where
  pub worth : r.worth < 10 ^ 9
  pub count : r.count < 10 ^ 9

pub record Sound (s : Teller) : Type 0 where
  pub few : s.tray.rows ≤ most_rows
  pub worth : s.tray.worth < 10 ^ 9
  pub row : (i : ℕ) → SmallRow (get_or s.tray.row i no_row)
  pub sittings : (i : ℕ) → get_or s.listed.sittings i 0 < 10 ^ 9
