-- `cards::choose::best_hand` meets its contract. Assumes nothing.
use mathlib.Core.Path.{ap, sym, subst, ◌∙◌}
use Rattle.cards.specs.Order.{best_of, Placed}
use Rattle.cards.specs.declared.Ranking.{Ranking}
use Rattle.cards.proofs.Kept.{placed_of}
use Rattle.cards.proofs.choose.best_hand.Goals as goal

pub best_by-requires : goal.best_by-requires
best_by-requires c = subst Placed (sym c.ranking_of.ensures) (placed_of _)

pub returns : goal.returns
returns c = c.best_by.ensures ∙ ap (λ (t : Ranking). best_of t c.args.cards.now) c.ranking_of.ensures
