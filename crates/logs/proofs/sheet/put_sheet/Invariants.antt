-- `put_sheet` meets its contract: each line is written behind the ones before it, by the table.
use Rattle.logs.proofs.Puts.{Going}
use Rattle.logs.proofs.sheet.put_sheet.Given as goal

abbrev pub invariant-loop-k : goal.invariant-loop-k
invariant-loop-k l = Going l.n-items l.initial.buffer l.buffer l.k l.at
