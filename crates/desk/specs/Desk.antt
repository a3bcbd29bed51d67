-- Document 01, "The answer block" and "Refusal numbers": one block read, taken and answered.
-- "12 stands in place of any of 0 to 10. After any of 1 to 10, or 12, the table and the count of taken entries equal those before."
use Rattle.std.specs.Prelude.{ℕ, ◌<◌, ◌^◌, true, false, ◌≡◌, List, [], ◌∷◌, length, get_or, Result, Ok, Err, None}
use Rattle.paper.specs.declared.Entry.{Entry}
use Rattle.paper.specs.declared.refusal.Refusal.{Refusal}
use Rattle.laws.specs.Tests.{pick}
use Rattle.blocks.specs.Block.{block_of}
use Rattle.blocks.specs.Entry.{parsed_of}
use Rattle.writing.specs.AnswerSheet.{written_of}
use Rattle.blocks.specs.declared.Block.{Block}
use Rattle.blocks.specs.declared.Block.TheVariants.{Raw, Malformed, Nothing}
use Rattle.blocks.specs.Codes.{code_of_block, code_of_parsed}
use Rattle.writing.specs.Codes.{code_of_written}
use Rattle.table.specs.declared.table.Table.{Table}
use Rattle.table.specs.declared.table.Payout.{Payout as Paid}
use Rattle.table.specs.Settle.{pots_now, back_now, no_payout}
use Rattle.table.specs.Take.{code_of, next_of, payout_of}
use Rattle.pots.specs.Runs.{padded}
use Rattle.answers.specs.declared.PaidRow.{PaidRow}
use Rattle.answers.specs.declared.ShownPayout.{ShownPayout}
use Rattle.answers.specs.declared.Shown.{Shown}
use Rattle.answers.specs.Answer.{answer_bytes}
use Rattle.desk.specs.declared.Judged.{Judged}
use Rattle.desk.specs.declared.Answered.{Answered}

-- a row for each seat: the sitting dealt in there, or 0, and what it is paid
abbrev pub rows_of : List ℕ → List ℕ → List PaidRow
rows_of [] ps = []
rows_of (s ∷ ss) [] = []
rows_of (s ∷ ss) (p ∷ ps) = record { sitting = s; paid = p } ∷ rows_of ss ps

-- a table that shares no pool shows no jackpot
abbrev pub payout_shown : Paid → ShownPayout
payout_shown p = record { fee = p.fee; jackpot = None; rows = rows_of p.sittings p.paid; unclaimed = p.unclaimed }

-- what the answer to a block with this number and code shows of the table after it, and of what the block paid
unfoldable pub shown_of : ℕ → ℕ → Table → Paid → Shown
shown_of n code t p = record {
  n = n;
  code = code;
  turn = t.play.turn;
  mark = t.play.mark;
  pots = record { n = length (pots_now t); list = padded 9 (pots_now t) };
  back = back_now t;
  settled = p.settled;
  payout = payout_shown p;
}

-- a refusal keeps the table and pays nothing
abbrev pub refused_at : Table → ℕ → ℕ → Judged
refused_at t n code = record { block = true; n = n; code = code; table = t; payout = no_payout }

-- "No bytes left means no block": nothing is judged, and the table stays
abbrev pub no_block : Table → Judged
no_block t = record { block = false; n = 0; code = code_of_block Nothing; table = t; payout = no_payout }

-- refusal 2, or the table's own answer
abbrev pub judge_parsed : Table → ℕ → Result Entry Refusal → Judged
judge_parsed t n (Err why) = refused_at t n (code_of_parsed (Err why))
judge_parsed t n (Ok e) = record { block = true; n = n; code = code_of t n e; table = next_of t n e; payout = payout_of t n e }

-- refusal 1; n is 0 after it
abbrev pub judge_block : Table → Block → Judged
judge_block t (Raw n kind seat a b) = judge_parsed t n (parsed_of kind seat a b)
judge_block t Malformed = refused_at t 0 (code_of_block Malformed)
judge_block t Nothing = no_block t

-- the number, the code, the table after the block at the front of a log, and what it paid
unfoldable pub judged_of : Table → List ℕ → Judged
judged_of t log = judge_block t (block_of log)

-- the block that shows what was judged; where there was no block there is no answer
abbrev pub judged_bytes : Judged → List ℕ
judged_bytes j = pick j.block (answer_bytes (shown_of j.n j.code j.table j.payout)) []

-- the block that answers it
unfoldable pub block_bytes : Table → List ℕ → List ℕ
block_bytes t log = judged_bytes (judged_of t log)

-- refusal 12: a block whose answer was not written is not taken
abbrev pub answered_from : Table → Judged → Result ℕ Refusal → Answered
answered_from t j (Ok k) = record { block = j.block; code = j.code; table = j.table; written = k }
answered_from t j (Err why) = record { block = j.block; code = code_of_written (Err why); table = t; written = 0 }

unfoldable pub answered_of : Table → List ℕ → List ℕ → Answered
answered_of t log sheet = answered_from t (judged_of t log) (written_of (block_bytes t log) sheet)

-- the number of a block
abbrev pub number_of_block : Block → ℕ
number_of_block (Raw n kind seat a b) = n
number_of_block Malformed = 0
number_of_block Nothing = 0

-- the numbers of a payout have at most nine digits
pub record SmallPaid (p : Paid) : Type 0 where
  pub fee : p.fee < 10 ^ 9
  pub sittings : (k : ℕ) → get_or p.sittings k 0 < 10 ^ 9
  pub paid : (k : ℕ) → get_or p.paid k 0 < 10 ^ 9
  pub unclaimed : p.unclaimed < 10 ^ 9

-- "the hand is closed before the lines are written": what a settle paid is shown of a table that has no pots
abbrev pub Closed : Table → Paid → Type 0
Closed t p = p.settled ≡ true → length (pots_now t) ≡ 0
