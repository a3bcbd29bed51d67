-- `answer` meets its contract: only a fair hand is told.
-- Assumes nothing.
use mathlib.Core.Bool.{not}
use Rattle.try_pots.proofs.Made.{fair_keeps}
use Rattle.laws.proofs.Tests.{both_true}
use mathlib.Core.Path.{sym, ◌∙◌}
use borrow.Author.Rules.{rules}
use Rattle.try_pots.proofs.lines.answer.Goals as goal

pub tell-requires : goal.tell-requires
tell-requires c = fair_keeps _ (sym c.fair.ensures ∙ (both_true (not c.args.s.bad) c.fair.result (sym c.both.ensures ∙ c.if-both.true)).1)

pub put_told-k-requires : goal.put_told-k-requires
put_told-k-requires c = (search rules, c.tell.ensures.few, (fair_keeps _ (sym c.fair.ensures ∙ (both_true (not c.args.s.bad) c.fair.result (sym c.both.ensures ∙ c.if-both.true)).1)).seats)
