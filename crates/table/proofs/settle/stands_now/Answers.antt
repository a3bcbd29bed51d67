-- `stands_now` meets its contract.
use native.Mathlib.Omega.{arith}
use Rattle.table.proofs.Laws.{totals_within}
use Rattle.table.specs.Settle.{pots_now, back_now}
use Rattle.table.proofs.settle.stands_now.Goals as goal

pub stand-requires : goal.stand-requires
stand-requires c = rw c.put_in-put.ensures.0 (omega (arith, totals_within c.args.t.chairs))

pub returns : goal.returns
unfolding pots_now back_now
returns c = rw (c.put_in-put.ensures.0, c.put_in-put.ensures.1) at c.stand.ensures
