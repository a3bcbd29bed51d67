-- `after_zeros` meets its contract: what is left has behind its zeros what the whole has.
use mathlib.Core.Path.{sym, ◌∙◌}
use Rattle.text.proofs.Parts.{part_is}
use Rattle.picture.proofs.Zeros.{one_stays, zero_passed, none_leads}
use Rattle.picture.proofs.reading.after_zeros.Goals as goal

pub loop-left-preserved : goal.loop-left-preserved
loop-left-preserved c =
    let bs = c.loop-left.left.now in
    rw (part_is 1 bs) (sym (zero_passed bs c.loop-left-test.true c.if-left-eq48.true) ∙ c.loop-left.invariant)

pub returns-else-left-eq48 : goal.returns-else-left-eq48
returns-else-left-eq48 c =
    sym (none_leads c.loop-left.left.now c.loop-left-test.true c.if-left-eq48.false) ∙ c.loop-left.invariant

pub returns-after-loop-left : goal.returns-after-loop-left
returns-after-loop-left c = sym (one_stays c.loop-left.left.now c.loop-left-test.false) ∙ c.loop-left.invariant
