-- `awaits_block` meets its contract.
use borrow.Author.Tests.{eq-eqb, ne_eqb}
use Rattle.stream.proofs.awaits_block.Goals as goal

pub returns-then-m-eq0-2 : goal.returns-then-m-eq0-2
returns-then-m-eq0-2 c = let m = c.args.m in rw (eq-eqb m.lines 0 c.if-m-eq0.true, eq-eqb m.width 0 c.if-m-eq0-2.true)

pub returns-else-m-eq0-2 : goal.returns-else-m-eq0-2
returns-else-m-eq0-2 c = let m = c.args.m in rw (eq-eqb m.lines 0 c.if-m-eq0.true, ne_eqb m.width 0 c.if-m-eq0-2.false)

pub returns-else-m-eq0 : goal.returns-else-m-eq0
returns-else-m-eq0 c = let m = c.args.m in rw (ne_eqb m.lines 0 c.if-m-eq0.false)
