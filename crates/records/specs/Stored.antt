-- Request No. 12: "Keep the log in a lent buffer of fixed-size records .. with an index beside it: for each hand, where it starts and each stack then."
-- A record is 8 bytes: kind (0 to 11 in 01's order), seat, b, 0, a (four bytes, low first); the entry's n is its place, counted from 1. A row is 44 bytes: the n of
-- the `hand` entry, then ten stacks before the blinds, four bytes each, low first. Assumes nothing.
use Rattle.std.specs.Prelude.{ℕ, ◌+◌, ◌-◌, ◌*◌, ◌%◌, Option, Some, None, is_some, unwrap_or, List, ◌∷◌, ◌++◌, length, get_or, ltb}
use Rattle.laws.specs.Tests.{pick}
use Rattle.paper.specs.declared.Entry.{Entry}
use Rattle.paper.specs.declared.Numbers.{Numbers}
use Rattle.blocks.specs.Entry.{entry_at}
use Rattle.records.specs.Bytes.{word_bytes, words_bytes, word_at, put_at}
use Rattle.records.specs.declared.Record.{Record}

-- ---- an entry's record

abbrev pub record_size : ℕ
record_size = 8

-- an entry's numbers are below 256, and a below 2 ^ 32: a taken entry's are far below
abbrev pub record_bytes : Numbers → List ℕ
record_bytes x = x.kind % 256 ∷ x.seat % 256 ∷ x.b % 256 ∷ 0 ∷ word_bytes x.a

-- what stands for a record where there is none
abbrev pub no_record : Record
no_record = record { kind = 0; seat = 0; b = 0; a = 0 }

-- the record at a place of a log; where eight bytes are not left there is none
unfoldable pub record_at : List ℕ → ℕ → Option Record
record_at log at =
    pick (ltb (length log - at) record_size) None
    (Some (record { kind = get_or log at 0; seat = get_or log (at + 1) 0; b = get_or log (at + 2) 0; a = word_at log (at + 4) }))

-- the place behind it; where there is none the place stays
abbrev pub behind : List ℕ → ℕ → ℕ
behind log at = pick (is_some (record_at log at)) (at + record_size) at

-- the k-th record, counted from 0, and its entry
abbrev pub record_in : List ℕ → ℕ → Record
record_in log k = unwrap_or (record_at log (record_size * k)) no_record

abbrev pub entry_by : Record → Entry
entry_by r = entry_at r.kind r.seat r.a r.b

abbrev pub entry_in : List ℕ → ℕ → Entry
entry_in log k = entry_by (record_in log k)

abbrev pub put_record : List ℕ → ℕ → Numbers → List ℕ
put_record log k x = put_at (record_size * k) (record_bytes x) log

-- ---- a hand's row

abbrev pub row_size : ℕ
row_size = 44

abbrev pub row_bytes : ℕ → List ℕ → List ℕ
row_bytes n stacks = word_bytes n ++ words_bytes stacks

-- the h-th row, counted from 0
abbrev pub put_row : List ℕ → ℕ → ℕ → List ℕ → List ℕ
put_row index h n stacks = put_at (row_size * h) (row_bytes n stacks) index
