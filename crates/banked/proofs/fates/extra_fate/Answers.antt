-- `banked::fates::extra_fate` meets its contract. Assumes nothing.
use Rattle.banked.specs.Fates.{extra_fate}
use borrow.Author.Tests.{eq-eqb, ne_eqb}
use mathlib.Core.Path.{refl, sym, ◌∙◌}
use Rattle.banked.proofs.fates.extra_fate.Goals as goal

pub returns-then-folded : goal.returns-then-folded
unfolding extra_fate
returns-then-folded c = rw c.if-folded.true (refl, tt)

pub returns-then-n-eq0 : goal.returns-then-n-eq0
unfolding extra_fate
returns-then-n-eq0 c = rw (c.if-folded.false, eq-eqb _ _ (sym c.extra_odds-n.ensures.0 ∙ c.if-n-eq0.true)) (refl, tt)

pub returns : goal.returns
unfolding extra_fate
returns c =
    (rw (c.if-folded.false, sym c.extra_odds-n.ensures.0, ne_eqb _ _ c.if-n-eq0.false), c.extra_odds-n.ensures.1)
