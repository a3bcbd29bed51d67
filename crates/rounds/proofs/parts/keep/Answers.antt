-- `rounds::parts::keep` meets its contract. Assumes nothing.
use Rattle.rounds.proofs.Keeps.{keep_end, keep_on, keep_not}
use native.Mathlib.Omega.{arith}
use Rattle.rounds.proofs.parts.keep.Goals as goal

pub returns-then-b-eq10 : goal.returns-then-b-eq10
returns-then-b-eq10 c = let r = c.requires.0.room in
    (keep_end c.args.m c.args.buf.now c.args.b (omega (arith, r.most, r.count, r.width, c.requires.0.lines)) c.if-b-eq10.true, record { count = omega (arith, r.count, r.width); width = omega arith; lines = omega (arith, c.requires.0.lines); most = omega (arith, r.count, r.width, c.requires.0.lines) })

pub returns-then-m-lt33 : goal.returns-then-m-lt33
returns-then-m-lt33 c = let r = c.requires.0.room in
    (keep_on c.args.m c.args.buf.now c.args.b (omega (arith, r.most, r.count, r.width, c.requires.0.lines)) c.if-b-eq10.false c.if-m-lt33.true, record { count = omega (arith, r.count); width = omega (arith, c.if-m-lt33.true); lines = r.lines; most = omega (arith, r.count, c.if-m-lt33.true, c.requires.0.lines) })

pub returns : goal.returns
returns c = (keep_not c.args.m c.args.buf.now c.args.b c.if-b-eq10.false c.if-m-lt33.false, c.requires.0.room)
