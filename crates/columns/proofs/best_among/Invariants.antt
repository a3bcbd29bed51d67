-- `best_among` meets its contract.
use mathlib.Core.Path.{◌≡◌}
use Rattle.columns.specs.Columns.{best_among}
use lib.ListN.{drop}
use Rattle.columns.proofs.best_among.Given as goal

abbrev pub invariant-loop-score : goal.invariant-loop-score
invariant-loop-score l = best_among l.m (drop l.score-index l.fn.scores) l.rest ≡ best_among 0 l.fn.scores l.who
