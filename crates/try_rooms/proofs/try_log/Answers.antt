-- `try_log` meets its contract.
use Rattle.desk.proofs.Whole.{whole_part}
use Rattle.blocks.proofs.Blocks.{rest_shorter}
use mathlib.Core.Path.{ap, ◌∙◌}
use native.Mathlib.Omega.{arith}
use lib.ListN.{length}
use Rattle.try_rooms.proofs.try_log.Goals as goal

pub loop-left-smaller : goal.loop-left-smaller
loop-left-smaller c = let e = whole_part c.rest-next.result.now ∙ c.rest-next.ensures in
    omega (arith, ap length e, rest_shorter c.loop-left.left.now (omega arith))
