-- `two_score` meets its contract.
use mathlib.Core.Path.{◌≡◌, ◌∙◌}
use lib.ListN.{length}
use Rattle.table.proofs.Laws.{seven_score}
use borrow.Author.Rules.{rules}
use Rattle.table.proofs.settle.two_score.Goals as goal

pub returns : goal.returns
returns c =
    let s = c in
    let d = s.args.h.cards in
    let k = s.args.b.cards in
    let ld : length d ≡ 4 = search rules in
    let lk : length k ≡ 5 = search rules in
    c.kept.ensures ∙ seven_score s.args.deck s.args.h.count d k s.requires ld lk c.best_hand.ensures
