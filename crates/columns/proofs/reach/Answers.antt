-- `reach` meets its contract.
use mathlib.Core.Path.{◌∙◌, ap}
use Rattle.columns.specs.Columns.{reach_of, least_among}
use Rattle.columns.proofs.reach.Goals as goal

pub returns : goal.returns
unfolding reach_of
returns c = c.least_among.ensures ∙ ap (λ k. least_among k c.args.totals c.args.who) c.second.ensures
