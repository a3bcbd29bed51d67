-- `close` meets its contract: shut, nothing kept, a block that is not whole, and a sheet that is not whole.
use Rattle.stream.proofs.Steps.{close_shut, close_none, close_block, close_bad}
use native.Mathlib.Omega.{arith}
use Rattle.stream.proofs.close.Goals as goal

pub returns-then-c : goal.returns-then-c
returns-then-c c = let r = close_shut c.args.c c.args.buf.now c.args.out.now c.if-c.true in record { bytes = r.0; short = r.1.0; within = r.1.1 }

pub returns-then-e-eq0 : goal.returns-then-e-eq0
returns-then-e-eq0 c = let r = close_none c.args.c c.args.buf.now c.args.out.now (omega (arith, c.requires.0.room.most, c.requires.1)) c.if-c.false c.if-c-2.true c.if-e-eq0.true in record { bytes = r.0; short = r.1.0; within = r.1.1 }

pub returns-then-c-2 : goal.returns-then-c-2
returns-then-c-2 c = let r = close_block c.args.c c.args.buf.now c.args.out.now (omega (arith, c.requires.0.room.most, c.requires.1)) c.if-c.false c.if-c-2.true c.if-e-eq0.false c.whole_block-a.ensures.gave c.whole_block-a.ensures.held.1 in record { bytes = r.0; short = r.1.0; within = r.1.1 }

pub returns : goal.returns
returns c = let r = close_bad c.args.c c.args.buf.now c.args.out.now c.if-c.false c.if-c-2.false c.refuse_sheet.ensures in record { bytes = r.0; short = r.1.0; within = r.1.1 }
