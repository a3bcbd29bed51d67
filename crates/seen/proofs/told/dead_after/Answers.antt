-- `dead_after` meets its contract, by its tests.
use mathlib.Core.Path.{sym, ◌∙◌}
use Rattle.seen.proofs.Laws.{dead_opens, dead_kills, dead_stays}
use Rattle.seen.proofs.told.dead_after.Goals as goal

pub returns-then-both : goal.returns-then-both
returns-then-both c = dead_opens c.args.dead c.args.code c.args.a (sym c.both.ensures ∙ c.if-both.true)

pub returns-then-both-2 : goal.returns-then-both-2
returns-then-both-2 c = dead_kills c.args.dead c.args.code c.args.a (sym c.both.ensures ∙ c.if-both.false) (sym c.both-2.ensures ∙ c.if-both-2.true) c.marked.ensures

pub returns : goal.returns
returns c = dead_stays c.args.dead c.args.code c.args.a (sym c.both.ensures ∙ c.if-both.false) (sym c.both-2.ensures ∙ c.if-both-2.false)
