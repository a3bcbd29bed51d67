-- `step` meets its contract: behind the sheet, behind a held `n`, at an `n` that is held back, and at another byte.
use Rattle.renewal.proofs.Steps.{step_done, step_behind, step_hold, step_pass}
use Rattle.renewal.proofs.step.Goals as goal

pub returns-then-s : goal.returns-then-s
returns-then-s c = let r = step_done c.args.s c.args.b c.args.out.now c.requires.1 c.requires.0 c.if-s.true in record { gave = r.0; held = r.1 }

pub step_held-requires : goal.step_held-requires
step_held-requires c = (c.requires.0.within c.if-s.false, c.requires.1)

pub returns-then-s-2 : goal.returns-then-s-2
returns-then-s-2 c = record { gave = step_behind c.args.s c.args.b c.args.out.now c.if-s.false c.if-s-2.true c.step_held.ensures.gave; held = c.step_held.ensures.held }

pub returns-then-both : goal.returns-then-both
returns-then-both c = let r = step_hold c.args.s c.args.b c.args.out.now c.requires.0 c.if-s.false c.if-s-2.false c.may_end.ensures c.both.ensures c.if-both.true in record { gave = r.0; held = r.1 }

pub onward-t-requires : goal.onward-t-requires
onward-t-requires c = c.requires.0.within c.if-s.false

pub returns : goal.returns
returns c = let r = step_pass c.args.s c.args.b c.args.out.now c.requires.1 c.if-s.false c.if-s-2.false c.may_end.ensures c.both.ensures c.if-both.false c.onward-t.ensures.0 c.onward-t.ensures.1 in record { gave = r.0; held = r.1 }
