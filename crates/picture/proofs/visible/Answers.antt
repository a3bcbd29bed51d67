-- `visible` meets its contract, by its tests.
use Rattle.picture.specs.Rows.{visible_of}
use borrow.Author.Tests.{le-leb, lt-leb}
use native.Mathlib.Omega.{arith}
use Rattle.picture.proofs.visible.Goals as goal

pub returns-then-b-lt32 : goal.returns-then-b-lt32
unfolding visible_of
returns-then-b-lt32 c = rw (lt-leb 32 c.args.b (omega arith))

pub returns-then-b-gt126 : goal.returns-then-b-gt126
unfolding visible_of
returns-then-b-gt126 c = rw (le-leb 32 c.args.b (omega arith), lt-leb c.args.b 126 (omega arith))

pub returns : goal.returns
unfolding visible_of
returns c = rw (le-leb 32 c.args.b (omega arith), le-leb c.args.b 126 (omega arith))
