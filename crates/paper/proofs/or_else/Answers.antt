-- `or_else` meets its contract.
use Rattle.paper.proofs.Codes.{or_some}
use mathlib.Core.Path.{sym}
use Rattle.paper.proofs.or_else.Goals as goal

pub returns-else-a-eq-TAKEN : goal.returns-else-a-eq-TAKEN
returns-else-a-eq-TAKEN c = sym (or_some _ _ c.if-a-eq-TAKEN.false)
