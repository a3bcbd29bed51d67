-- `best_omaha` meets its contract.
use mathlib.Core.Path.{sym, ap, subst, ◌∙◌}
use Rattle.cards.specs.Order.{ranking_of, best_among, Placed}
use Rattle.cards.specs.Omaha.{from_both}
use Rattle.cards.specs.declared.Ranking.{Ranking}
use Rattle.cards.proofs.Kept.{placed_of}
use Rattle.cards.proofs.Pairs.{found_few}
use Rattle.cards.proofs.omaha.best_omaha.Goals as goal

pub returns-then-board-lt3 : goal.returns-then-board-lt3
returns-then-board-lt3 c = found_few (ranking_of c.args.deck) c.args.board.now _ c.if-board-lt3.true c.hand_in.ensures

pub best_of_both-requires : goal.best_of_both-requires
best_of_both-requires c = (c.if-board-lt3.false, subst Placed (sym c.ranking_of.ensures) (placed_of _))

pub returns : goal.returns
returns c =
    let s = c in
    c.best_of_both.ensures ∙ ap (λ (t : Ranking). best_among t (from_both 2 3 s.args.hole s.args.board.now)) c.ranking_of.ensures
