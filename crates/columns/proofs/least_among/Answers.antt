-- `least_among` meets its contract.
use Prim.Native.Nat.{◌+◌, ◌/◌}
use mathlib.Core.Path.{sym, ap, ◌∙◌}
use Rattle.columns.specs.Columns.{least_among}
use lib.ListN.{drop}
use Rattle.columns.proofs.Turns.{least_turn, least_done}
use borrow.Author.Rules.{rules}
use Rattle.columns.proofs.least_among.Goals as goal

pub loop-t-preserved : goal.loop-t-preserved
loop-t-preserved c = let l = c.loop-t in let xs = c.args.totals in (ap (λ k. least_among k (drop (l.t-index + 1) xs) (l.rest / 2)) c.least_if-m.ensures ∙ sym (least_turn xs l.t-index l.m l.rest (search rules)) ∙ l.invariant)

pub returns : goal.returns
returns c = let l = c.loop-t in let xs = c.args.totals in sym (least_done xs l.t-index l.m l.rest (search rules)) ∙ l.invariant
