-- The chips that a taken entry brings to the table and takes from it: `sit` and `leave` ("pays out the whole stack"), and of a settle the fee, the drop and
-- what is unclaimed. Assumes nothing.
use Rattle.std.specs.Prelude.{ℕ, ◌+◌}
use Rattle.paper.specs.declared.Entry.{Entry}
use Rattle.paper.specs.declared.Entry.TheVariants.{Sit, Leave, Hand, Hole, Fold, Check, Call, Wager, Board, Dead, Settle, Void}
use Rattle.table.specs.State.{seat_of}
use Rattle.table.specs.Settle.{payout_now}
use Rattle.table.specs.declared.table.Table.{Table}

abbrev pub brought_by : Entry → ℕ
brought_by (Sit s a) = a
brought_by (Leave s) = 0
brought_by (Hand s) = 0
brought_by (Hole s a b) = 0
brought_by (Fold s) = 0
brought_by (Check s) = 0
brought_by (Call s) = 0
brought_by (Wager s a) = 0
brought_by (Board k) = 0
brought_by (Dead s) = 0
brought_by Settle = 0
brought_by Void = 0

abbrev pub taken_off_by : Table → Entry → ℕ
taken_off_by t (Sit s a) = 0
taken_off_by t (Leave s) = (seat_of t s).stack
taken_off_by t (Hand s) = 0
taken_off_by t (Hole s a b) = 0
taken_off_by t (Fold s) = 0
taken_off_by t (Check s) = 0
taken_off_by t (Call s) = 0
taken_off_by t (Wager s a) = 0
taken_off_by t (Board k) = 0
taken_off_by t (Dead s) = 0
taken_off_by t Settle = (payout_now t).fee + (payout_now t).drop + (payout_now t).unclaimed
taken_off_by t Void = 0
