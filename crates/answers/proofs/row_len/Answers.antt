-- `row_len` meets its contract.
use mathlib.Core.Path.{sym, ap}
use lib.ListN.{length}
use Rattle.answers.specs.Answer.{key_sitting, key_paid}
use Rattle.answers.proofs.Blocks.{row_none, row_some, line_most, two_count}
use native.Mathlib.Omega.{arith}
use Rattle.answers.proofs.row_len.Goals as goal

pub returns-then-s-eq0 : goal.returns-then-s-eq0
returns-then-s-eq0 c =
    sym (ap length (row_none c.args.r c.if-s-eq0.true))

pub overflow_add-result : goal.overflow_add-result
overflow_add-result c =
    omega (arith, line_most key_sitting c.args.r.sitting, line_most key_paid c.args.r.paid)

pub returns : goal.returns
returns c =
    omega (arith, ap length (row_some c.args.r c.if-s-eq0.false), two_count key_sitting c.args.r.sitting key_paid c.args.r.paid)
