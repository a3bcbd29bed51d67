-- `start` meets its contract: the stand-in is a good sheet.
use Rattle.paper.proofs.Sheets.{stand_in_good}
use mathlib.Core.Bool.{true≢false}
use mathlib.Core.Path.{sym}
use native.Mathlib.Omega.{arith}
use Rattle.stream.proofs.start.Goals as goal

pub new_table-t-requires : goal.new_table-t-requires
new_table-t-requires c = stand_in_good

pub returns : goal.returns
returns c =
    let z = c.empty-z.ensures in
    let t = c.new_table-t.ensures in
    (rw (t.0, z.0), record { sound = t.1; room = z.1; lines = rw z.0 (omega arith); shut = λ e. absurd (true≢false (sym e)) })
