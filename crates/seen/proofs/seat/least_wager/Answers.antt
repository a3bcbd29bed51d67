-- `least_wager` meets its contract: the chips of a chair are among the table's.
use mathlib.Core.Path.{ap}
use Prim.Native.Nat.{◌+◌}
use native.Mathlib.Omega.{arith}
use Rattle.chairs.specs.declared.Chair.{Chair}
use Rattle.chairs.proofs.Laws.{chips_at}
use Rattle.seen.specs.Seats.{least_wager}
use Rattle.seen.proofs.seat.least_wager.Goals as goal

pub least_for-requires : goal.least_for-requires
least_for-requires c = let t = c.args.t in
    omega (arith, ap (λ (d : Chair). d.stack + d.dealt.total) c.chair_at-c.ensures, chips_at t.chairs t.play.turn, c.requires.payable.chips)

pub returns : goal.returns
unfolding least_wager
returns c = rw c.chair_at-c.ensures at c.least_for.ensures
