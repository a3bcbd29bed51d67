-- `table_in` meets its contract.
use Rattle.frames.proofs.Nexts.{table_none}
use Rattle.frames.proofs.table_in.Goals as goal

pub returns-else-v-eq2 : goal.returns-else-v-eq2
returns-else-v-eq2 c = table_none c.args.x c.in-Some.is c.if-v-eq1.false c.if-v-eq2.false
