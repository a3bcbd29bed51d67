-- `rewrite` meets its contract.
use Rattle.ledger.proofs.Telling.{rewrite_yes, rewrite_no}
use Rattle.text.proofs.Parts.{part_is}
use Rattle.ledger.proofs.rewrite.Goals as goal

pub returns-then-ok : goal.returns-then-ok
returns-then-ok c = let r = rewrite_yes c.args.ok c.args.t c.args.n c.args.x c.args.log.now c.args.index.now c.if-ok.true c.short_of.ensures c.put_record.ensures (part_is 0 _) c.write_rows.ensures in record { log = r.0; index = r.1 }

pub returns-else-ok : goal.returns-else-ok
returns-else-ok c = let r = rewrite_no c.args.ok c.args.t c.args.n c.args.x c.args.log.now c.args.index.now c.if-ok.false in record { log = r.0; index = r.1 }
