-- `told` meets its contract.
use Rattle.ledger.proofs.Telling.{told_bytes, told_none}
use Rattle.ledger.proofs.told.Goals as goal

pub returns-in-Ok : goal.returns-in-Ok
returns-in-Ok c = told_bytes c.args.b c.args.j c.args.hands c.args.w c.in-Ok.is

pub returns-in-Err : goal.returns-in-Err
returns-in-Err c = told_none c.args.b c.args.j c.args.hands c.args.w c.in-Err.is
