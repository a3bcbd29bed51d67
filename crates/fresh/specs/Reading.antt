-- Request No. 12: "when the whole corrected log is read afresh": the stored entries taken one after another at a new table, with one of them replaced; and the
-- index, "for each hand, where it starts and each stack then". A log is given as its entries by their places, counted from 0; the k-th has the number k + 1.
-- Assumes nothing.
use Rattle.std.specs.Prelude.{ℕ, zero, suc, ◌+◌, Bool, true, List, map, eqb, unwrap_or}
use Rattle.laws.specs.Tests.{pick, both, one}
use Rattle.paper.specs.RefusalNumbers.{taken}
use Rattle.paper.specs.SheetAndEntries.{numbers_of}
use Rattle.paper.specs.declared.Sheet.{Sheet}
use Rattle.paper.specs.declared.Entry.{Entry}
use Rattle.chairs.specs.declared.Chair.{Chair}
use Rattle.table.specs.Take.{code_of, next_of, fresh_table}
use Rattle.records.specs.Stored.{no_record, record_at, behind, entry_by, put_row}
use Rattle.records.specs.declared.Record.{Record}
use Rattle.fresh.specs.declared.Played.{Played}
use Rattle.fresh.specs.declared.Rowed.{Rowed}

-- ---- the table after the entries, and whether each of them was taken

abbrev pub begun_of : Sheet → Played
begun_of sheet = record { table = fresh_table sheet; ok = true }

unfoldable pub played_of : Played → ℕ → Entry → Played
played_of p n e = record { table = next_of p.table n e; ok = both p.ok (eqb (code_of p.table n e) taken) }

-- after the first k entries
abbrev pub played_from : Played → (ℕ → Entry) → ℕ → Played
played_from p f zero = p
played_from p f (suc k) = played_of (played_from p f k) (k + 1) (f k)

abbrev pub played_to : Sheet → (ℕ → Entry) → ℕ → Played
played_to sheet f k = played_from (begun_of sheet) f k

-- e in the place of the entry at `at`
abbrev pub replacing : ℕ → Entry → (ℕ → Entry) → ℕ → Entry
replacing at e f k = pick (eqb k at) e (f k)

-- ---- the same as the log's reader comes to the records, each behind the one before

abbrev pub entry_or : ℕ → ℕ → Entry → Record → Entry
entry_or k at e got = pick (eqb k at) e (entry_by got)

-- where the reader stands after k records
abbrev pub place_to : List ℕ → ℕ → ℕ
place_to log zero = 0
place_to log (suc k) = behind log (place_to log k)

-- the record that it comes to there
abbrev pub met : List ℕ → ℕ → Record
met log k = unwrap_or (record_at log (place_to log k)) no_record

abbrev pub read_to : Played → List ℕ → ℕ → Entry → ℕ → Played
read_to p log at e zero = p
read_to p log at e (suc k) = played_of (read_to p log at e k) (k + 1) (entry_or k at e (met log k))

-- ---- the rows

-- "each stack then"
abbrev pub stack_of : Chair → ℕ
stack_of c = c.stack

-- `hand` is the third of 01's kinds
unfoldable pub is_hand : Entry → Bool
is_hand e = eqb (numbers_of e).kind 2

-- how many rows there are behind an entry, and the index with its row: it has the stacks before the blinds
abbrev pub rowed_of : Bool → ℕ → ℕ
rowed_of hand hands = hands + one hand

unfoldable pub index_after : Bool → ℕ → ℕ → List Chair → List ℕ → List ℕ
index_after hand hands n cs index = pick hand (put_row index hands n (map stack_of cs)) index

-- one entry more
abbrev pub rowed_by : Rowed → ℕ → Entry → Rowed
rowed_by p k e = record { table = next_of p.table (k + 1) e; hands = rowed_of (is_hand e) p.hands }

abbrev pub index_by : Rowed → ℕ → Entry → List ℕ → List ℕ
index_by p k e index = index_after (is_hand e) p.hands (k + 1) p.table.chairs index

-- the table and the count of hands after the first k entries, and the index then
abbrev pub rows_begun : Sheet → Rowed
rows_begun sheet = record { table = fresh_table sheet; hands = 0 }

abbrev pub rowed_from : Rowed → (ℕ → Entry) → ℕ → Rowed
rowed_from p f zero = p
rowed_from p f (suc k) = rowed_by (rowed_from p f k) k (f k)

abbrev pub index_from : Rowed → (ℕ → Entry) → ℕ → List ℕ → List ℕ
index_from p f zero index = index
index_from p f (suc k) index = index_by (rowed_from p f k) k (f k) (index_from p f k index)

abbrev pub index_to : Sheet → (ℕ → Entry) → ℕ → List ℕ → List ℕ
index_to sheet f k index = index_from (rows_begun sheet) f k index
