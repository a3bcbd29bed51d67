-- `Chair::owes` meets its contract.
use mathlib.Core.Path.{sym, ◌∙◌}
use Rattle.chairs.proofs.Chair.owes.Goals as goal

pub returns-then-self : goal.returns-then-self
returns-then-self c = simp (sym c.live_with_chips.ensures ∙ c.if-live_with_chips.true, c.if-self.true)

pub returns-then-alone : goal.returns-then-alone
returns-then-alone c = simp (c.round_of.ensures, sym c.live_with_chips.ensures ∙ c.if-live_with_chips.true, c.if-self.false, c.if-alone.true)

pub returns-else-alone : goal.returns-else-alone
returns-else-alone c = simp (sym c.live_with_chips.ensures ∙ c.if-live_with_chips.true, c.if-self.false, c.if-alone.false)

pub returns-else-live_with_chips : goal.returns-else-live_with_chips
returns-else-live_with_chips c = simp (sym c.live_with_chips.ensures ∙ c.if-live_with_chips.false)
