-- Four of a rank and the highest other.
use mathlib.Core.Path.{◌≡◌, ap, ◌∙◌}
use Rattle.counts.specs.HandOrder.{highest, leaving}
use Rattle.counts.specs.Kept.{ranks_in}
use Rattle.counts.proofs.naming.four_hand.Goals as goal

pub returns : goal.returns
returns c =
    let f = c.args.f in
    let e : c.top.result ≡ highest (leaving f (ranks_in c.args.once)) = c.top.ensures.is ∙ ap highest c.less.ensures.are in
    λ i. record { class = 1; r1 = f; r2 = f; r3 = f; r4 = f; r5 = e i }
