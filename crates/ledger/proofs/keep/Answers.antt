-- `keep` meets its contract.
use Rattle.ledger.proofs.Telling.{keep_yes, keep_no}
use Rattle.ledger.proofs.keep.Goals as goal

pub returns-then-ok : goal.returns-then-ok
returns-then-ok c = let r = keep_yes c.args.ok c.args.b c.args.x c.args.log.now c.args.index.now c.if-ok.true c.put_record.ensures c.put_row_if.ensures.hands c.put_row_if.ensures.index in record { hands = r.0; log = r.1.0; index = r.1.1 }

pub returns : goal.returns
returns c = let r = keep_no c.args.ok c.args.b c.args.x c.args.log.now c.args.index.now c.if-ok.false in record { hands = r.0; log = r.1.0; index = r.1.1 }
