-- `was_taken` meets its contract.
use Rattle.ledger.proofs.Telling.{taken_bytes, taken_none}
use Rattle.ledger.proofs.was_taken.Goals as goal

pub returns-in-Ok : goal.returns-in-Ok
returns-in-Ok c = taken_bytes c.args.w c.args.code c.in-Ok.is

pub returns-in-Err : goal.returns-in-Err
returns-in-Err c = taken_none c.args.w c.args.code c.in-Err.is
