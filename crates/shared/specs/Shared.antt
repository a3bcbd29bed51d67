-- Request No. 7: one block at a table that shares a pool. The block is judged by the table alone, whatever the pool holds; a taken settle's drop goes into the pool, what
-- doesn't fit to the house, and the royal flush wins the whole of it; "a settled block has a `jackpot` line after `fee`, this hand's win or 0". A table that shares a
-- pool refuses corrections with 14 (No. 12). After a refusal, and after 12, the table and the pool are those before. Assumes nothing.
use Rattle.std.specs.Prelude.{ℕ, Bool, List, [], length, Result, Ok, Err, Some}
use Rattle.paper.specs.declared.refusal.Refusal.TheVariants.{NoRoom}
use Rattle.paper.specs.declared.refusal.Refusal.{Refusal}
use Rattle.laws.specs.Tests.{pick}
use Rattle.paper.specs.RefusalNumbers.{shares_pool}
use Rattle.text.specs.Line.{line_number}
use Rattle.text.specs.TableSheet.{value_in}
use Rattle.writing.specs.Codes.{code_of_written}
use Rattle.answers.specs.Answer.{answer_bytes}
use Rattle.answers.specs.declared.Shown.{Shown}
use Rattle.table.specs.declared.table.Table.{Table}
use Rattle.royal.specs.Royal.{royal_now}
use Rattle.pool.specs.Jackpot.{settled_pool, no_hand}
use Rattle.pool.specs.declared.Pool.{Pool}
use Rattle.pool.specs.declared.Hand.{Hand}
use Rattle.pool.specs.declared.Settled.{Settled}
use Rattle.amends.specs.Righting.{right_key, is_right}
use Rattle.desk.specs.Desk.{shown_of, refused_at, judged_of}
use Rattle.desk.specs.declared.Judged.{Judged}
use Rattle.shared.specs.declared.SharedAnswer.{SharedAnswer}

-- the number that a correction would put right: its answer's `n`
abbrev pub corrected_number : List ℕ → ℕ
corrected_number log = value_in (line_number right_key log)

-- the block at the front of a log, judged: the pool is not asked
unfoldable pub judged_at : Table → List ℕ → Judged
judged_at t log = pick (is_right log) (refused_at t (corrected_number log) shares_pool) (judged_of t log)

-- the hand that a block settled at the table t; none where it settled none
unfoldable pub hand_of : Table → Judged → Hand
hand_of t j = pick j.payout.settled (record { drop = j.payout.drop; royal = royal_now t }) no_hand

-- what becomes of the pool
abbrev pub settled_at : Table → Pool → Judged → Settled
settled_at t p j = settled_pool p (hand_of t j)

-- what is shown, with what the hand won; all else as of any table
unfoldable pub with_jackpot : ℕ → Shown → Shown
with_jackpot amount s = record {
  n = s.n;
  code = s.code;
  turn = s.turn;
  mark = s.mark;
  pots = s.pots;
  back = s.back;
  settled = s.settled;
  payout = record { fee = s.payout.fee; jackpot = Some amount; rows = s.payout.rows; unclaimed = s.payout.unclaimed };
}

abbrev pub shown_at : Judged → ℕ → Shown
shown_at j amount = with_jackpot amount (shown_of j.n j.code j.table j.payout)

-- the block that answers what was judged; where there was no block there is no answer
abbrev pub judged_bytes_at : Table → Pool → Judged → List ℕ
judged_bytes_at t p j = pick j.block (answer_bytes (shown_at j (settled_at t p j).jackpot)) []

unfoldable pub bytes_at : Table → Pool → List ℕ → List ℕ
bytes_at t p log = judged_bytes_at t p (judged_at t log)

-- the size reported beforehand
unfoldable pub room_at : Table → Pool → List ℕ → ℕ
room_at t p log = length (bytes_at t p log)

-- a block whose answer was written
abbrev pub said : Judged → Settled → ℕ → SharedAnswer
said j s k = record { block = j.block; code = j.code; table = j.table; pool = s.pool; house = s.house; written = k }

-- refusal 12: a block whose answer was not written is not taken, and nothing is dropped
abbrev pub kept : Bool → Table → Pool → SharedAnswer
kept block t p = record { block = block; code = code_of_written (Err NoRoom); table = t; pool = p; house = 0; written = 0 }

abbrev pub shared_from : Table → Pool → Judged → Result ℕ Refusal → SharedAnswer
shared_from t p j (Ok k) = said j (settled_at t p j) k
shared_from t p j (Err why) = kept j.block t p
