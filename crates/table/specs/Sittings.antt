-- Document 01, "Sittings", and the entries `sit` and `leave` (codes 5 and 9). Assumes nothing.
use Rattle.std.specs.Prelude.{ℕ, ◌+◌, not, ltb, eqb}
use Rattle.paper.specs.Paper.{wrong_seat, too_many_chips, when, or_else}
use Rattle.laws.specs.Tests.{either}
use Rattle.chairs.specs.Chairs.{chips_of, seated_of}
use Rattle.table.specs.State.{with_chair, with_sitting, seat_of}
use Rattle.table.specs.declared.table.Table.{Table}

-- sit: always; the seat is "empty" (5). 9: "stacks plus chips in the open hand plus a exceed 100,000,000"
unfoldable pub sit_code : Table → ℕ → ℕ → ℕ
sit_code t s a = or_else (when (not (eqb (seat_of t s).sitting 0)) wrong_seat) (when (ltb 100000000 (chips_of t.chairs + a)) too_many_chips)

-- "Each taken `sit` gets the next sitting number, from 1; none comes twice." The hand record at the seat stays that of the old sitting: "the newcomer waits
-- for the next hand and starts with no total, cards or debt"
unfoldable pub sat_to : Table → ℕ → ℕ → Table
sat_to t s a = with_sitting (with_chair t s (seated_of (seat_of t s) (t.sittings + 1) a)) (t.sittings + 1)

-- leave: always; the seat is "occupied, its sitter not live in a hand"
unfoldable pub leave_code : Table → ℕ → ℕ
leave_code t s = when (either (eqb (seat_of t s).sitting 0) (seat_of t s).dealt.live) wrong_seat

-- "`leave` pays out the whole stack." "A hand's totals belong to sittings": the hand record stays that of the sitting that left
unfoldable pub left_to : Table → ℕ → Table
left_to t s = with_chair t s (seated_of (seat_of t s) 0 0)
