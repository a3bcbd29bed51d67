-- A number above 51 is refused, then one that comes twice.
use mathlib.Core.Path.{sym, ◌∙◌}
use Rattle.counts.proofs.Agree.{reads_high, reads_twice, reads_hand}
use Rattle.counts.proofs.counted.Goals as goal

pub returns-then-any_above : goal.returns-then-any_above
returns-then-any_above c = reads_high c.args.cards (sym c.any_above.ensures ∙ c.if-any_above.true)

pub returns-then-any_twice : goal.returns-then-any_twice
returns-then-any_twice c = reads_twice c.args.cards (sym c.any_above.ensures ∙ c.if-any_above.false) (sym c.any_twice.ensures ∙ c.if-any_twice.true)

pub hand_by_counts-requires : goal.hand_by_counts-requires
hand_by_counts-requires c = (sym c.any_above.ensures ∙ c.if-any_above.false, sym c.any_twice.ensures ∙ c.if-any_twice.false)

pub returns : goal.returns
returns c =
    reads_hand c.args.cards c.hand_by_counts.result (sym c.any_above.ensures ∙ c.if-any_above.false) (sym c.any_twice.ensures ∙ c.if-any_twice.false) c.hand_by_counts.ensures
