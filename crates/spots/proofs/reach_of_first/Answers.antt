-- `reach_of_first` meets its contract: none below the first pot.
use mathlib.Core.Path.{ap, ◌∙◌}
use borrow.Author.Tests.{eq-eqb, ne_eqb}
use Rattle.pots.specs.declared.Pot.{Pot}
use Rattle.columns.specs.Columns.{reach_of}
use Rattle.spots.specs.Spots.{reach_of_first}
use Rattle.spots.proofs.reach_of_first.Goals as goal

pub returns-then-k-eq0 : goal.returns-then-k-eq0
unfolding reach_of_first
returns-then-k-eq0 c = rw (eq-eqb _ _ c.if-k-eq0.true)

pub returns : goal.returns
unfolding reach_of_first
returns c = rw (ne_eqb _ _ c.if-k-eq0.false) (c.reach.ensures ∙ ap (λ (p : Pot). reach_of c.args.totals p.who) c.pot_at-q.ensures)
