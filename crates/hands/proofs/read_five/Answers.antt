-- `hands::read_five` meets its contract, by a law for each return. Assumes nothing.
use Rattle.hands.proofs.Ended.{five_none, five_twice, five_known, fives_are}
use mathlib.Core.Path.{sym, ◌∙◌}
use Rattle.hands.proofs.read_five.Goals as goal

pub returns-then-any_twice : goal.returns-then-any_twice
returns-then-any_twice c = five_twice c.args.cards.now (fives_are c.args.cards.now _ _ c.any_above.ensures c.both.ensures c.if-both.true) (sym c.any_twice.ensures ∙ c.if-any_twice.true)

pub returns-then-both : goal.returns-then-both
returns-then-both c = five_known c.args.cards.now (fives_are c.args.cards.now _ _ c.any_above.ensures c.both.ensures c.if-both.true) (sym c.any_twice.ensures ∙ c.if-any_twice.false) c.best_hand.ensures

pub returns : goal.returns
returns c = five_none c.args.cards.now (fives_are c.args.cards.now _ _ c.any_above.ensures c.both.ensures c.if-both.false)
