-- Two pairs and the highest other rank.
use mathlib.Core.Path.{◌≡◌, ap, ◌∙◌}
use Rattle.counts.specs.HandOrder.{highest, leaving}
use Rattle.counts.specs.Kept.{ranks_in}
use Rattle.counts.proofs.naming.two_pair_hand.Goals as goal

pub returns : goal.returns
returns c =
    let a = c.args in
    let e : c.top.result ≡ highest (leaving a.q (leaving a.p (ranks_in a.once))) =
    c.top.ensures.is ∙ ap highest (c.less-2.ensures.are ∙ ap (leaving a.q) c.less.ensures.are) in
    λ i. record { class = 6; r1 = a.p; r2 = a.p; r3 = a.q; r4 = a.q; r5 = e i }
