-- `step_held` meets its contract: where a block begins, and elsewhere.
use Rattle.renewal.proofs.Steps.{most_is, block_begins, n_passes}
use lib.ListN.{length-set}
use native.Mathlib.Omega.{arith}
use Rattle.renewal.proofs.step_held.Goals as goal

pub returns-then-b-eq61 : goal.returns-then-b-eq61
returns-then-b-eq61 c = let r = block_begins c.args.n c.args.b c.if-b-eq61.true c.put_missing-a.ensures.0 c.put_missing-a.ensures.1 c.put_bytes-w.ensures in record { gave = r.0; held = r.1 }

pub bounds-out-1 : goal.bounds-out-1
bounds-out-1 c = simp length-set (omega (arith, c.requires.1, most_is))

pub returns : goal.returns
returns c = let r = n_passes c.args.n c.args.b c.args.out.now c.requires.1 c.if-b-eq61.false c.onward-s.ensures.0 c.onward-s.ensures.1 in record { gave = r.0; held = r.1 }
