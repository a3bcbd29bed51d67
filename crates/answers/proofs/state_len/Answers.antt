-- `state_len` meets its contract.
use Rattle.answers.specs.Answer.{key_n, key_code, key_turn, key_mark}
use Rattle.answers.proofs.Blocks.{line_most, state_count}
use native.Mathlib.Omega.{arith}
use Rattle.answers.proofs.state_len.Goals as goal

pub overflow_add-result : goal.overflow_add-result
overflow_add-result c =
    omega (arith, line_most key_n c.args.n, line_most key_code c.args.code)

pub overflow_add-result-2 : goal.overflow_add-result-2
overflow_add-result-2 c =
    omega (arith, line_most key_turn c.args.turn, line_most key_mark c.args.mark)

pub overflow_add-result-3 : goal.overflow_add-result-3
overflow_add-result-3 c =
    omega (arith, line_most key_n c.args.n, line_most key_code c.args.code, line_most key_turn c.args.turn, line_most key_mark c.args.mark)

pub returns : goal.returns
returns c =
    omega (arith, state_count c.args.n c.args.code c.args.turn c.args.mark)
