-- `put_if` meets its contract, by its test.
use native.Mathlib.Omega.{arith}
use Rattle.figures.proofs.Puts.{put_when, put_unless}
use Rattle.figures.proofs.put.put_if.Goals as goal

pub returns-then-test : goal.returns-then-test
returns-then-test c = (put_when _ c.if-test.true c.put.ensures, omega (arith, c.put.ensures.count))

pub returns : goal.returns
returns c = (put_unless c.args.bytes.now c.args.out.now c.args.at c.args.test c.if-test.false (omega arith), omega arith)
