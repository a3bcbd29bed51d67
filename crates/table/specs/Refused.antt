-- What refuses an entry, as document 01's number: "Refusal numbers, in the order they are tested". Assumes nothing.
use Rattle.std.specs.Prelude.{ℕ, ◌+◌, not, eqb, Result, Ok, Err}
use Rattle.paper.specs.Paper.{taken, out_of_range, not_next, when, or_else, in_range}
use Rattle.paper.specs.Refusals.{number_of}
use Rattle.paper.specs.declared.refusal.Refusal.{Refusal}
use Rattle.paper.specs.declared.Entry.{Entry}
use Rattle.table.specs.declared.table.Table.{Table}

-- 0 where nothing refuses it, else the reason's number
abbrev pub number_by : Result (Unit {0}) Refusal → ℕ
number_by (Ok u) = taken
number_by (Err why) = number_of why

-- 2: a number outside its range, a seat above `seats`; 3: n is not the next
abbrev pub early_of : Table → ℕ → Entry → ℕ
early_of t n e = or_else (when (not (in_range t.sheet n e)) out_of_range) (when (not (eqb (t.taken + 1) n)) not_next)
