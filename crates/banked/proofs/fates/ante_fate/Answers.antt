-- `banked::fates::ante_fate` meets its contract. Assumes nothing.
use Rattle.banked.specs.Fates.{ante_fate}
use mathlib.Core.Path.{refl}
use Rattle.banked.proofs.fates.ante_fate.Goals as goal

pub returns-then-folded : goal.returns-then-folded
unfolding ante_fate
returns-then-folded c = rw c.if-folded.true (refl, tt)

pub returns-in-Greater : goal.returns-in-Greater
unfolding ante_fate
returns-in-Greater c = (rw (c.if-folded.false, c.in-Greater.is) (rw c.is_flush_or_higher.ensures at c.won_or_returned.ensures.0), c.won_or_returned.ensures.1)

pub returns-in-Equal : goal.returns-in-Equal
unfolding ante_fate
returns-in-Equal c = rw (c.if-folded.false, c.in-Equal.is) (refl, tt)

pub returns-in-Less : goal.returns-in-Less
unfolding ante_fate
returns-in-Less c = rw (c.if-folded.false, c.in-Less.is) (refl, tt)
