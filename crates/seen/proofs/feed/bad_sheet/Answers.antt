-- `bad_sheet` meets its contract.
use mathlib.Core.Path.{ap}
use native.Mathlib.Omega.{arith}
use Rattle.lines.specs.declared.Fill.{Fill}
use Rattle.seen.proofs.feed.bad_sheet.Goals as goal

pub returns : goal.returns
returns c = let z = c.empty-z.ensures in
    (rw (c.start-o.ensures, z.0), record { sound = c.requires.sound; room = z.1; lines = omega (arith, ap (λ (m : Fill). m.lines) z.0) })
