-- `least_among` meets its contract.
use mathlib.Core.Path.{◌≡◌}
use Rattle.columns.specs.Columns.{least_among}
use lib.ListN.{drop}
use Rattle.columns.proofs.least_among.Given as goal

abbrev pub invariant-loop-t : goal.invariant-loop-t
invariant-loop-t l = least_among l.m (drop l.t-index l.fn.totals) l.rest ≡ least_among l.bound l.fn.totals l.who
