-- `table_len` meets its contract.
use Rattle.answers.specs.Answer.{key_back}
use Rattle.answers.proofs.Blocks.{line_most, state_most, table_count, pots_most}
use native.Mathlib.Omega.{arith}
use Rattle.answers.proofs.table_len.Goals as goal

pub overflow_add-result : goal.overflow_add-result
overflow_add-result c =
    let s = c.args.s in
    omega (arith, state_most s.n s.code s.turn s.mark, pots_most s.pots.list s.pots.n c.requires.count, line_most key_back s.back)

pub overflow_add-result-2 : goal.overflow_add-result-2
overflow_add-result-2 c =
    let s = c.args.s in
    omega (arith, state_most s.n s.code s.turn s.mark, pots_most s.pots.list s.pots.n c.requires.count, line_most key_back s.back)

pub returns : goal.returns
returns c =
    omega (arith, table_count c.args.s)
