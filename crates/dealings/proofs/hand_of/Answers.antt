-- `hand_of` meets its contract. Assumes nothing.
use Rattle.std.proofs.Common.{rules}
use Rattle.dealings.proofs.Laws.{hand_made}
use Rattle.dealings.proofs.hand_of.Goals as goal

pub returns : goal.returns
returns c =
    hand_made _ _ _
    c.chips_of-chips.ensures
    c.reach_of_first-low.ensures
    c.sole-sole.ensures
    (search rules)
    c.paid_each.ensures
    c.parts_of-parts.ensures
    c.scores_of-scores.ensures
    c.charged.ensures
