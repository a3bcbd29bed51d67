-- `put_start` meets its contract, by its test.
use Rattle.picture.proofs.Steps.{start_none, start_drawn}
use native.Mathlib.Omega.{arith}
use Rattle.picture.proofs.rows.put_start.Goals as goal

pub returns-then-either : goal.returns-then-either
returns-then-either c = (start_none c.args.last c.args.kind c.args.n c.both.ensures c.both-2.ensures c.either.ensures c.args.at c.args.out.now c.if-either.true (omega (arith, c.requires.1)), omega arith)

pub returns : goal.returns
returns c = (start_drawn c.args.last c.args.kind c.args.n c.both.ensures c.both-2.ensures c.either.ensures c.if-either.false c.put_front.ensures.0, c.put_front.ensures.1)
