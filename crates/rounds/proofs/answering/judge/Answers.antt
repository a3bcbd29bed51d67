-- `rounds::answering::judge` meets its contract. Assumes nothing.
use Rattle.rounds.specs.RoundText.{judged_of}
use mathlib.Core.Path.{sym, ◌∙◌}
use Rattle.rounds.proofs.answering.judge.Goals as goal

pub returns-then-is_choice : goal.returns-then-is_choice
unfolding judged_of
returns-then-is_choice c = (rw (sym c.is_choice.ensures ∙ c.if-is_choice.true) (rw c.round_of.ensures at c.settle.ensures.is.0), c.settle.ensures.small)

pub returns : goal.returns
unfolding judged_of
returns c = (rw (sym c.is_choice.ensures ∙ c.if-is_choice.false), tt)
