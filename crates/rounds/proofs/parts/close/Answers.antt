-- `rounds::parts::close` meets its contract. Assumes nothing.
use Rattle.rounds.proofs.Keeps.{close_none, close_some}
use native.Mathlib.Omega.{arith}
use mathlib.Core.Path.{refl}
use Rattle.rounds.proofs.parts.close.Goals as goal

pub returns-then-m-eq0 : goal.returns-then-m-eq0
returns-then-m-eq0 c = (rw (close_none c.args.m c.args.buf.now c.if-m-eq0.true) (record { count = refl; sheet = refl }), omega arith)

pub returns : goal.returns
returns c = (rw (close_some c.args.m c.args.buf.now c.if-m-eq0.false (omega (arith, c.requires.0.room.most, c.requires.1))) c.answer.ensures.0, c.answer.ensures.1)
