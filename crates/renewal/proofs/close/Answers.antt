-- `close` meets its contract: behind the sheet, at a held `n`, where the sheet may end, and elsewhere.
use Rattle.renewal.proofs.Steps.{close_done, close_held, close_ends, close_cut}
use native.Mathlib.Omega.{arith}
use Rattle.renewal.proofs.close.Goals as goal

pub returns-then-s : goal.returns-then-s
returns-then-s c = let p = close_done c.args.s c.args.out.now c.requires.0 c.if-s.true in record { gave = p.0; held = (p.1.0, omega (arith, p.1.1, c.requires.1)) }

pub returns-then-s-2 : goal.returns-then-s-2
returns-then-s-2 c = let p = close_held c.args.s c.args.out.now c.requires.1 c.requires.0 c.if-s.false c.if-s-2.true in record { gave = p.0; held = (p.1.0, omega (arith, p.1.1, c.requires.1)) }

pub returns-then-may_end : goal.returns-then-may_end
returns-then-may_end c = let p = close_ends c.args.s c.args.out.now c.if-s.false c.if-s-2.false c.may_end.ensures c.if-may_end.true c.put_missing-w.ensures.0 c.put_missing-w.ensures.1 in record { gave = p.0; held = (p.1.0, omega (arith, p.1.1, c.requires.1)) }

pub returns : goal.returns
returns c = let p = close_cut c.args.s c.args.out.now c.requires.0 c.if-s.false c.if-s-2.false c.may_end.ensures c.if-may_end.false in record { gave = p.0; held = (p.1.0, omega (arith, p.1.1, c.requires.1)) }
