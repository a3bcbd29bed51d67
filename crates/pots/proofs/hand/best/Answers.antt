-- `best` meets its contract.
-- Assumes nothing.
use mathlib.Core.Path.{ap, ◌∙◌}
use Rattle.pots.specs.Heights.{live_of, mask_at}
use Rattle.laws.specs.Lists.{max_of}
use Rattle.pots.proofs.hand.best.Goals as goal

pub returns : goal.returns
returns c =
    let a = c.args in
    let r = c.live_totals-rated.result in
    let e = c.live_totals-rated.ensures ∙ ap (λ l. live_of l a.who) c.raised.ensures in
    c.mask_at.ensures ∙ ap (mask_at r) c.largest.ensures ∙ ap (λ l. mask_at l (max_of l)) e
