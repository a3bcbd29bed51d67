-- `close` meets its contract, by whether a line is kept.
use Rattle.picture.proofs.Steps.{close_half, close_line}
use native.Mathlib.Omega.{arith}
use Rattle.picture.proofs.close.Goals as goal

pub returns-then-n-eq0 : goal.returns-then-n-eq0
returns-then-n-eq0 c = (close_half c.args.s c.args.buf.now (omega (arith, c.requires.0.count, c.requires.1)) c.if-n-eq0.true c.half.ensures c.put_if.ensures.0, omega (arith, c.put_if.ensures.1))

pub returns : goal.returns
returns c = (close_line c.args.s c.args.buf.now (omega (arith, c.requires.0.count, c.requires.1)) c.if-n-eq0.false c.put_foreign.ensures.0, c.put_foreign.ensures.1)
