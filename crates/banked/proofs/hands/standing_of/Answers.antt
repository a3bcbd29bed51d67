-- `banked::hands::standing_of` meets its contract. Assumes nothing.
use Rattle.banked.specs.Hands.{standing_of}
use Rattle.cards.specs.Order.{ranking_of}
use mathlib.Core.Path.{sym, ◌∙◌}
use Rattle.banked.proofs.hands.standing_of.Goals as goal

pub returns-then-beats : goal.returns-then-beats
unfolding standing_of ranking_of
returns-then-beats c = rw (sym c.beats.ensures ∙ c.if-beats.true)

pub returns-then-beats-2 : goal.returns-then-beats-2
unfolding standing_of ranking_of
returns-then-beats-2 c = rw (sym c.beats.ensures ∙ c.if-beats.false, sym c.beats-2.ensures ∙ c.if-beats-2.true)

pub returns : goal.returns
unfolding standing_of ranking_of
returns c = rw (sym c.beats.ensures ∙ c.if-beats.false, sym c.beats-2.ensures ∙ c.if-beats-2.false)
