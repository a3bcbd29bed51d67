-- `step` meets its contract: at an LF, at another byte, and at one for which there is no room.
use lib.ListN.{length-set}
use Rattle.picture.proofs.Steps.{step_ended, step_kept, step_full}
use native.Mathlib.Omega.{arith}
use Rattle.picture.proofs.step.Goals as goal

pub slice_bounds-said-end : goal.slice_bounds-said-end
slice_bounds-said-end c = simp length-set (omega (arith, c.requires.0.count, c.requires.1))

pub slice_bounds-put_said-end : goal.slice_bounds-put_said-end
slice_bounds-put_said-end c = simp length-set (omega (arith, c.requires.0.count, c.requires.1))

pub returns-then-b-eq10 : goal.returns-then-b-eq10
returns-then-b-eq10 c = let p = step_ended c.args.colour c.args.s c.args.buf.now c.args.b (omega (arith, c.requires.0.count, c.requires.1)) c.if-b-eq10.true c.said-l.ensures.0 c.put_said-end.ensures.0 c.after-next.ensures.0 c.after-next.ensures.1 c.after-next.ensures.2 c.after-next.ensures.3 in record { drawn = p.0; state = p.1; held = (c.after-next.ensures.4, c.put_said-end.ensures.1) }

pub returns-then-n-lt-LINE : goal.returns-then-n-lt-LINE
returns-then-n-lt-LINE c = let p = step_kept c.args.colour c.args.s c.args.buf.now c.args.b (omega (arith, c.requires.0.count, c.requires.1)) c.args.at c.args.out.now c.if-b-eq10.false c.if-n-lt-LINE.true (omega (arith, c.requires.2)) in record { drawn = p.0; state = p.1; held = (record { count = omega arith; last = c.requires.0.last; pots = c.requires.0.pots }, omega arith) }

pub returns : goal.returns
returns c = let p = step_full c.args.colour c.args.s c.args.buf.now c.args.b (omega (arith, c.requires.0.count, c.requires.1)) c.if-b-eq10.false c.if-n-lt-LINE.false c.put_foreign-end.ensures.0 in record { drawn = p.0; state = p.1; held = (record { count = omega arith; last = omega arith; pots = omega arith }, omega (arith, c.put_foreign-end.ensures.1)) }
