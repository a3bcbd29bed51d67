-- `bad_with` meets its contract.
use borrow.Author.Tests.{eq-eqb, ne_eqb}
use Rattle.lines.specs.Kept.{bad_of}
use Rattle.lines.proofs.bad_with.Goals as goal

pub returns-then-width-eq32 : goal.returns-then-width-eq32
unfolding bad_of
returns-then-width-eq32 c = rw (eq-eqb _ _ c.if-width-eq32.true)

pub returns : goal.returns
unfolding bad_of
returns c = rw (ne_eqb _ _ c.if-width-eq32.false)
