-- What `pay` writes. REQUESTS No. 13: "it writes `code=0`, and for each sitting in order `sitting=S` and R lines `give=N`, having lowered the rows; or `code=17` and nothing
-- else. With `--check` .. the answer is `code=0`, `code=2` or `code=16` alone. At the end of the input the tray as it stands, `rows=R`, then `worth` and `count` for each
-- row." Assumes nothing.
use Rattle.std.specs.Prelude.{ℕ, zero, suc, ◌*◌, ◌≤◌, ◌≡◌, List, [], ◌++◌, length, get_or, take, drop, eqb, ltb}
use Rattle.laws.specs.Tests.{either, pick}
use Rattle.text.specs.Line.{number_line}
use Rattle.writing.specs.AnswerSheet.{Wrote}
use Rattle.answers.specs.Answer.{joined, key_code, key_sitting}
use Rattle.tray.specs.Proposal.{accepted, out_of_bounds}
use Rattle.proposer.specs.Proposer.{proposal}
use Rattle.rows.specs.declared.Row.{Row}
use Rattle.rows.specs.Rows.{worths_of, counts_of, judged_rows, rows_after, proposing_rows}
use Rattle.teller.specs.declared.state.Listed.{Listed}
use Rattle.teller.specs.declared.state.Tray.{Tray}
use Rattle.teller.specs.declared.state.Teller.{Teller}
use Rattle.payments.specs.declared.paying.Answered.{Answered}
use Rattle.teller.specs.Lines.{key_give, key_rows, key_worth, key_count}
use Rattle.teller.specs.Keeping.{faulty, anew}

-- ---- texts
abbrev pub give_text : ℕ → List ℕ
give_text n = number_line key_give n

abbrev pub code_text : ℕ → List ℕ
code_text code = number_line key_code code

-- a sitting and its part of a proposal
unfoldable pub sitting_text : ℕ → List ℕ → List ℕ
sitting_text sitting part = number_line key_sitting sitting ++ joined give_text part

-- the first n sittings, each with its part of a proposal over so many rows
abbrev pub sittings_text : ℕ → List ℕ → ℕ → List ℕ → List ℕ
sittings_text zero sittings rows p = []
sittings_text (suc n) sittings rows p = sittings_text n sittings rows p ++ sitting_text (get_or sittings n 0) (take rows (drop (n * rows) p))

unfoldable pub row_text : Row → List ℕ
row_text r = number_line key_worth r.worth ++ number_line key_count r.count

-- the rows of a tray, and the tray as it stands
abbrev pub rows_of : Tray → List Row
rows_of t = take t.rows t.row

unfoldable pub tray_text : Tray → List ℕ
tray_text t = number_line key_rows t.rows ++ joined row_text (rows_of t)

-- ---- a block is answered: the teller and the lent list after it, and what is written
pub record Answer : Type 0 where
  pub teller : Teller
  pub gives : List ℕ
  pub text : List ℕ

-- what the listed sittings are paid
abbrev pub paid_of : Listed → List ℕ
paid_of x = take x.count x.paid

-- the array of the tray's rows, where its rows are these
abbrev pub row_with : Tray → List Row → List Row
row_with t rows = rows ++ drop t.rows t.row

-- a code alone; nothing else changes
abbrev pub refusal : Teller → List ℕ → ℕ → Answer
refusal s gives code = record { teller = anew s s.tray.row; gives = gives; text = code_text code }

-- ---- without `--check`: the proposer's proposal, which is written into the lent list and lowers the rows
module _ (s : Teller) where
  abbrev pub rows : List Row
  rows = rows_of s.tray

  abbrev pub paid : List ℕ
  paid = paid_of s.listed

  -- the proposal, its length, and the proposer's answer
  abbrev pub proposed : List ℕ
  proposed = proposal (worths_of rows) (counts_of rows) paid

  abbrev pub long : ℕ
  long = s.listed.count * s.tray.rows

  abbrev pub proposing : ℕ
  proposing = proposing_rows rows paid long

  unfoldable pub payment : List ℕ → Answer
  payment gives =
      record {
        teller = anew s (row_with s.tray (rows_after accepted (length paid) proposed rows));
        gives = proposed ++ drop long gives;
        text = code_text accepted ++ sittings_text s.listed.count s.listed.sittings s.tray.rows proposed;
      }

  unfoldable pub paid_out : List ℕ → Answer
  paid_out gives = pick (faulty s.listed) (refusal s gives out_of_bounds) (pick (eqb proposing accepted) (payment gives) (refusal s gives proposing))

  -- ---- with `--check`: another program's proposal, which stands in the lent list; one of more than 160 numbers is too long in any case
  unfoldable pub checked_code : List ℕ → ℕ
  checked_code gives = pick (either (faulty s.listed) (ltb 160 s.given)) out_of_bounds (judged_rows rows paid (take s.given gives))

  unfoldable pub checked : List ℕ → Answer
  checked gives =
      record {
        teller = anew s (row_with s.tray (rows_after (checked_code gives) (length paid) (take s.given gives) rows));
        gives = gives;
        text = code_text (checked_code gives);
      }

-- a function does this: what it returns, the lent list and the lent sheet after it
pub record Does (a : Answer) (r : Answered) (gives old new : List ℕ) (room : ℕ) : Type 0 where
  pub teller : r.teller ≡ a.teller
  pub lent : gives ≡ a.gives
  pub wrote : Wrote a.text old new r.written
  pub most : r.written ≤ room
