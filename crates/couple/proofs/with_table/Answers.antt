-- `with_table` meets its contract.
use Rattle.couple.proofs.Tables.{with_second, with_first}
use Rattle.couple.proofs.with_table.Goals as goal

pub returns-then-second : goal.returns-then-second
returns-then-second c = with_second c.args.ts c.args.t c.if-second.true

pub returns : goal.returns
returns c = with_first c.args.ts c.args.t c.if-second.false
