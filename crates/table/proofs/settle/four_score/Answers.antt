-- `four_score` meets its contract.
use mathlib.Core.Path.{◌≡◌, ◌∙◌}
use lib.ListN.{length}
use Rattle.table.proofs.Laws.{both_score}
use borrow.Author.Rules.{rules}
use Rattle.table.proofs.settle.four_score.Goals as goal

pub returns : goal.returns
returns c =
    let s = c in
    let d = s.args.h.cards in
    let ld : length d ≡ 4 = search rules in
    c.kept.ensures ∙ both_score s.args.deck s.args.h.count d s.args.b.cards s.requires ld c.best_omaha.ensures
