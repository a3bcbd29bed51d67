-- Request No. 12: "A correction replaces one fold, check, call, wager, hole or board entry by another of these six, same `n`. It is refused with 13, and changes
-- nothing, exactly if codes 1 to 10 refuse the new entry or any later one when the whole corrected log is read afresh. When taken, table, log, index and pots equal
-- that fresh reading .. A table that shares a pool refuses corrections with 14, tested first; an `n` not stored, or an old or new entry outside the six, gets 2,
-- before 13." 12 stands before all. Assumes nothing.
use Rattle.std.specs.Prelude.{ℕ, ◌-◌, Bool, true, false, not, List, [], ◌∷◌, eqb, Option, Some, None, Result, Ok, Err}
use Rattle.paper.specs.declared.Entry.{Entry}
use Rattle.paper.specs.declared.refusal.Refusal.TheVariants.{OutOfRange}
use Rattle.paper.specs.declared.refusal.Refusal.{Refusal}
use Rattle.laws.specs.Tests.{pick, both, either}
use Rattle.paper.specs.RefusalNumbers.{taken, out_of_range, not_right, shares_pool, when, or_else}
use Rattle.paper.specs.SheetAndEntries.{between}
use Rattle.text.specs.Line.{after_line, line_number}
use Rattle.text.specs.TableSheet.{is_value, value_in}
use Rattle.blocks.specs.Block.{line_kind, block_from}
use Rattle.blocks.specs.Entry.{parsed_of}
use Rattle.blocks.specs.Front.{block_ended}
use Rattle.blocks.specs.declared.Block.{Block}
use Rattle.blocks.specs.declared.Block.TheVariants.{Raw, Malformed, Nothing}
use Rattle.table.specs.Settle.{no_payout}
use Rattle.table.specs.declared.table.Table.{Table}
use Rattle.records.specs.Stored.{record_in, entry_in}
use Rattle.fresh.specs.Reading.{replacing, played_to}
use Rattle.fresh.specs.declared.Played.{Played}
use Rattle.desk.specs.Desk.{refused_at}
use Rattle.desk.specs.declared.Judged.{Judged}
use Rattle.amends.specs.declared.Right.{Right}

-- ---- its five lines: `right`, then as ever `do`, `seat`, `a`, `b`

-- the key `right`
abbrev pub right_key : List ℕ
right_key = 114 ∷ 105 ∷ 103 ∷ 104 ∷ 116 ∷ []

unfoldable pub right_of : List ℕ → Right
right_of log = record {
  n = line_number right_key log;
  kind = line_kind (after_line log);
  block =
      block_from
      (line_number right_key log)
      (line_kind (after_line log))
      (line_number (115 ∷ 101 ∷ 97 ∷ 116 ∷ []) (after_line (after_line log)))
      (line_number (97 ∷ []) (after_line (after_line (after_line log))))
      (line_number (98 ∷ []) (after_line (after_line (after_line (after_line log)))));
}

-- a correction is a whole block whose first line is a good `right=N`; else it is an entry, of bad form
unfoldable pub is_right : List ℕ → Bool
is_right log = both (is_value (line_number right_key log)) (block_ended log)

-- the corrected number
abbrev pub number_of : Right → ℕ
number_of r = value_in r.n

-- ---- 14, then 2

-- hole, fold, check, call, wager, board: the fourth to the ninth of 01's kinds
abbrev pub is_six : ℕ → Bool
is_six k = between 3 8 k

-- a `do` of good form that is none of the six; one of bad form is no case for 2
abbrev pub outside : Option ℕ → Bool
outside (Some k) = not (is_six k)
outside None = false

abbrev pub right_code : Bool → ℕ → ℕ → ℕ → Option ℕ → ℕ
right_code shared count n old kind =
    or_else (when shared shares_pool) (when (either (not (between 1 count n)) (either (not (is_six old)) (outside kind))) out_of_range)

-- ---- 13, or the fresh reading

-- the entry that the five lines are, if they are one
abbrev pub parsed_in : Block → Result Entry Refusal
parsed_in (Raw n kind seat a b) = parsed_of kind seat a b
parsed_in Malformed = Err OutOfRange
parsed_in Nothing = Err OutOfRange

-- a correction that is taken pays nothing
unfoldable pub righted_by : Table → ℕ → Played → Judged
righted_by t n p =
    pick p.ok (record { block = true; n = n; code = taken; table = p.table; payout = no_payout }) (refused_at t n not_right)

abbrev pub replayed_of : Table → ℕ → Result Entry Refusal → List ℕ → Judged
replayed_of t n (Ok e) log = righted_by t n (played_to t.sheet (replacing (n - 1) e (entry_in log)) t.taken)
replayed_of t n (Err why) log = refused_at t n not_right

abbrev pub code_before : Table → Bool → Right → List ℕ → ℕ
code_before t shared r log = right_code shared t.taken (number_of r) (record_in log (number_of r - 1)).kind r.kind

unfoldable pub judged_right : Table → Bool → Right → List ℕ → Judged
judged_right t shared r log =
    pick (eqb (code_before t shared r log) taken) (replayed_of t (number_of r) (parsed_in r.block) log)
    (refused_at t (number_of r) (code_before t shared r log))
