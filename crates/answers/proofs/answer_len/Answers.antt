-- `answer_len` meets its contract.
use mathlib.Core.Path.{ap}
use lib.ListN.{length}
use Rattle.answers.proofs.Blocks.{table_most, settled_count, answer_plain}
use native.Mathlib.Omega.{arith}
use Rattle.answers.proofs.answer_len.Goals as goal

pub overflow_add-result : goal.overflow_add-result
overflow_add-result c =
    omega (arith, table_most c.args.s c.requires.count)

pub returns-then-s : goal.returns-then-s
returns-then-s c =
    omega (arith, settled_count c.args.s c.if-s.true)

pub returns : goal.returns
returns c =
    omega (arith, ap length (answer_plain c.args.s c.if-s.false))
