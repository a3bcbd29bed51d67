-- `close` meets its contract: behind a bad sheet, nothing kept, a block that is not whole, and a sheet that is not whole.
use Rattle.copier.proofs.Steps.{close_shut, close_none, close_block, close_bad}
use native.Mathlib.Omega.{arith}
use Rattle.copier.proofs.close.Goals as goal

pub returns-then-c : goal.returns-then-c
returns-then-c c = let s = c in let r = close_shut s.args.c s.args.buf.now s.args.copy.now s.args.notes.now c.if-c.true in record { copied = r.0; said = r.1.0; within = r.1.1 }

pub returns-then-e-eq0 : goal.returns-then-e-eq0
returns-then-e-eq0 c = let s = c in let r = close_none s.args.c s.args.buf.now s.args.copy.now s.args.notes.now (omega (arith, s.requires.0.room.most, s.requires.1)) c.if-c.false c.if-c-2.true c.if-e-eq0.true in record { copied = r.0; said = r.1.0; within = r.1.1 }

pub returns-then-c-2 : goal.returns-then-c-2
returns-then-c-2 c = let s = c in
    let w = c.whole_block-t.ensures in
    let r = close_block s.args.c s.args.buf.now s.args.copy.now s.args.notes.now (omega (arith, s.requires.0.room.most, s.requires.1)) c.if-c.false c.if-c-2.true c.if-e-eq0.false w.gave w.held.1 w.held.2 in record { copied = r.0; said = r.1.0; within = r.1.1 }

pub returns : goal.returns
returns c = let s = c in let r = close_bad s.args.c s.args.buf.now s.args.copy.now s.args.notes.now c.if-c.false c.if-c-2.false c.note_bad.ensures s.requires.3 in record { copied = r.0; said = r.1.0; within = r.1.1 }
