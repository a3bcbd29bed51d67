-- `label_y` meets its contract, by its two tests.
use borrow.Author.Tests.{lt-ltb, le-ltb, eq-eqb, ne_eqb}
use Rattle.spots.specs.Spots.{label_y}
use Rattle.spots.proofs.label_y.Goals as goal

pub returns-then-k-gt10 : goal.returns-then-k-gt10
unfolding label_y
returns-then-k-gt10 c = rw (lt-ltb _ _ c.if-k-gt10.true)

pub returns-then-labels-eq0 : goal.returns-then-labels-eq0
unfolding label_y
returns-then-labels-eq0 c = rw (le-ltb _ _ c.if-k-gt10.false, eq-eqb _ _ c.if-labels-eq0.true)

pub returns : goal.returns
unfolding label_y
returns c = rw (le-ltb _ _ c.if-k-gt10.false, ne_eqb _ _ c.if-labels-eq0.false) c.less.ensures
