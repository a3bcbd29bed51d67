-- `best_of_two` meets its contract.
use Rattle.dealings.proofs.Laws.{two_made}
use Rattle.dealings.proofs.best_of_two.Goals as goal

pub returns : goal.returns
returns c =
    let s = c.args in
    two_made s.deck s.d s.k c.best_hand-h.ensures c.shown.ensures
