-- `chips_of` meets its contract.
use Rattle.dealings.proofs.Laws.{chips_made}
use Rattle.dealings.proofs.chips_of.Goals as goal

pub returns : goal.returns
returns c =
    let k = c.stands_now-stands.ensures in
    let r = c.rows-rows.ensures in
    chips_made _ _ r.0 r.1 c.dealt_in.ensures r.2 r.3 k.0 k.1 k.3
