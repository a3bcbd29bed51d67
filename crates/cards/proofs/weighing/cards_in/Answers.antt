-- `cards::weighing::cards_in` meets its contract. Assumes nothing.
use Rattle.laws.proofs.Five.{five_list}
use lib.ListN.{length}
use mathlib.Core.Path.{◌≡◌, sym, ◌∙◌}
use borrow.Author.Rules.{rules}
use Rattle.cards.proofs.weighing.cards_in.Goals as goal

pub returns : goal.returns
returns c =
    let q = c.five_in-q.result in
    let n : length q ≡ 5 = search rules in
    sym (five_list 0 q n) ∙ c.five_in-q.ensures
