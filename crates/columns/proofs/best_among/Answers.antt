-- `best_among` meets its contract.
use Prim.Native.Nat.{◌+◌, ◌/◌}
use mathlib.Core.Path.{sym, ap, ◌∙◌}
use Rattle.columns.specs.Columns.{best_among}
use lib.ListN.{drop}
use Rattle.columns.proofs.Turns.{best_turn, best_done}
use borrow.Author.Rules.{rules}
use Rattle.columns.proofs.best_among.Goals as goal

pub loop-score-preserved : goal.loop-score-preserved
loop-score-preserved c = let l = c.loop-score in let xs = c.args.scores in (ap (λ k. best_among k (drop (l.score-index + 1) xs) (l.rest / 2)) c.best_if-m.ensures ∙ sym (best_turn xs l.score-index l.m l.rest (search rules)) ∙ l.invariant)

pub returns : goal.returns
returns c = let l = c.loop-score in let xs = c.args.scores in sym (best_done xs l.score-index l.m l.rest (search rules)) ∙ l.invariant
