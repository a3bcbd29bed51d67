-- `start` meets its contract: the stand-in is a good sheet.
use mathlib.Core.Path.{ap}
use native.Mathlib.Omega.{arith}
use Rattle.paper.proofs.Sheets.{stand_in_good}
use Rattle.lines.specs.declared.Fill.{Fill}
use Rattle.seen.proofs.feed.start.Goals as goal

pub new_table-t-requires : goal.new_table-t-requires
new_table-t-requires c = stand_in_good

pub returns : goal.returns
returns c = let z = c.empty-z.ensures in
    let t = c.new_table-t.ensures in
    (rw (c.start-o.ensures, z.0, t.0), record { sound = t.1; room = z.1; lines = omega (arith, ap (λ (m : Fill). m.lines) z.0) })
