-- `line_len` meets its contract.
use Rattle.text.proofs.Lines.{line_count}
use Rattle.text.proofs.Numbers.{count_most}
use native.Mathlib.Omega.{arith}
use Rattle.answers.proofs.line_len.Goals as goal

pub overflow_add-result : goal.overflow_add-result
overflow_add-result c =
    omega (arith, count_most c.args.n)

pub overflow_add-result-2 : goal.overflow_add-result-2
overflow_add-result-2 c =
    omega (arith, count_most c.args.n)

pub returns : goal.returns
returns c =
    omega (arith, line_count c.args.key.now c.args.n)
