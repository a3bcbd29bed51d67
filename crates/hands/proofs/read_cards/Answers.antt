-- `hands::read_cards` meets its contract: both readers give the same answer about the 52 cards. Assumes nothing.
use mathlib.Core.Path.{sym, ◌∙◌}
use Rattle.hands.proofs.Ended.{counted_deck}
use Rattle.hands.proofs.read_cards.Goals as goal

pub returns-then-both : goal.returns-then-both
returns-then-both c =
    let s = c in
    counted_deck s.args.counted s.args.deck _ _ (sym c.both.ensures ∙ c.if-both.true) c.read_counted.ensures
