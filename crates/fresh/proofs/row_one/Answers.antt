-- `row_one` meets its contract.
use Rattle.fresh.proofs.Steps.{row_is}
use Rattle.records.specs.Stored.{entry_in}
use Rattle.fresh.proofs.row_one.Goals as goal

pub returns : goal.returns
returns c = let p = c.args.p in let k = c.args.k in let r = row_is p k (entry_in c.args.log.now k) c.args.index.now c.entry_in-e.ensures c.is_hand.ensures c.put_row_if-hands.ensures.hands c.put_row_if-hands.ensures.index c.take-done.ensures.0 in record { rowed = (r.0, c.take-done.ensures.1); index = r.1 }
