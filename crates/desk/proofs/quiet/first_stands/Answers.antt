-- `first_stands` meets its contract: what is put in is at most all chips, and the pots of it are those of the table.
use native.Mathlib.Omega.{arith}
use Rattle.table.proofs.Laws.{totals_within}
use Rattle.table.specs.Settle.{pots_now, back_now}
use Rattle.desk.proofs.SamePots.{now_shows}
use Rattle.desk.proofs.quiet.first_stands.Goals as goal

pub stand-requires : goal.stand-requires
stand-requires c = rw c.put_in-put.ensures.0 (omega (arith, totals_within c.args.t.chairs))

pub returns : goal.returns
unfolding pots_now back_now
returns c = now_shows c.args.t (rw (c.put_in-put.ensures.0, c.put_in-put.ensures.1) at c.stand.ensures)
