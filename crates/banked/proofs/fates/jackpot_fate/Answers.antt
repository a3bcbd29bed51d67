-- `banked::fates::jackpot_fate` meets its contract. Assumes nothing.
use Rattle.banked.specs.Fates.{jackpot_fate}
use borrow.Author.Tests.{eq-eqb, ne_eqb}
use mathlib.Core.Path.{refl, sym, ◌∙◌}
use Rattle.banked.proofs.fates.jackpot_fate.Goals as goal

pub returns-then-folded : goal.returns-then-folded
unfolding jackpot_fate
returns-then-folded c = rw c.if-folded.true (refl, tt)

pub returns-then-flop-eq0 : goal.returns-then-flop-eq0
unfolding jackpot_fate
returns-then-flop-eq0 c = rw (c.if-folded.false, eq-eqb _ _ c.if-flop-eq0.true) (refl, tt)

pub returns-then-n-eq0 : goal.returns-then-n-eq0
unfolding jackpot_fate
returns-then-n-eq0 c = rw (c.if-folded.false, ne_eqb _ _ c.if-flop-eq0.false, eq-eqb _ _ (sym c.bonus_times-n.ensures.0 ∙ c.if-n-eq0.true)) (refl, tt)

pub returns : goal.returns
unfolding jackpot_fate
returns c = (rw (c.if-folded.false, ne_eqb _ _ c.if-flop-eq0.false, sym c.bonus_times-n.ensures.0, ne_eqb _ _ c.if-n-eq0.false), c.bonus_times-n.ensures.1)
