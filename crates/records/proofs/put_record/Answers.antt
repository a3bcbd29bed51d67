-- `put_record` meets its contract.
use Rattle.records.proofs.Puts.{record_put, record_none}
use mathlib.Core.Path.{refl}
use Rattle.records.proofs.put_record.Goals as goal

pub returns-then-at-log : goal.returns-then-at-log
returns-then-at-log c = record_put c.args.log.now c.args.k c.args.x c.record_of-bs.ensures c.if-at-log.true c.put_bytes.ensures refl

pub returns-else-at-log : goal.returns-else-at-log
returns-else-at-log c = record_none c.args.log.now c.args.k c.args.x c.if-at-log.false
