-- `unfinished` meets its contract.
use mathlib.Core.Path.{ap}
use native.Mathlib.Omega.{arith}
use Rattle.lines.specs.declared.Fill.{Fill}
use Rattle.report.proofs.unfinished.Goals as goal

pub returns : goal.returns
returns c = (c.empty.ensures.1, omega (arith, ap (λ (m : Fill). m.lines) c.empty.ensures.0, c.requires.1))
