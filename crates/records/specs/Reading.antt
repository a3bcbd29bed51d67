-- Request No. 12: "A reader holds the stored log with its place." Assumes nothing.
use Rattle.std.specs.Prelude.{ℕ, zero, suc, ◌+◌, List, length, eqb, is_some, unwrap_or}
use Rattle.laws.specs.Tests.{pick}
use Rattle.records.specs.Stored.{record_size, no_record, record_at, behind}
use Rattle.records.specs.declared.Record.{Record}
use Rattle.records.specs.declared.Reader.{Reader}

-- what `next` leaves: the same log, at the place behind the record
abbrev pub after : Reader → Reader
after r = record { log = r.log; at = behind r.log.now r.at }

-- the same log at another place
abbrev pub moved_to : Reader → ℕ → Reader
moved_to r at = record { log = r.log; at = at }

-- the place behind the last `hand` record so far, where one more record ends at `next`
abbrev pub later_of : ℕ → ℕ → Record → ℕ
later_of last next r = pick (eqb r.kind 2) next last

-- from a place on. The first number bounds how many records there are; no log has more records than bytes
abbrev pub last_on : ℕ → List ℕ → ℕ → ℕ → ℕ
last_on zero log at last = last
last_on (suc f) log at last =
    pick (is_some (record_at log at))
    (last_on f log (at + record_size) (later_of last (at + record_size) (unwrap_or (record_at log at) no_record)))
    last

unfoldable pub last_hand : List ℕ → ℕ
last_hand log = last_on (length log) log 0 0
