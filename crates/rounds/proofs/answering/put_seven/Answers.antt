-- `rounds::answering::put_seven` meets its contract. Assumes nothing.
use Rattle.rounds.proofs.Lengths.{line_most}
use Rattle.rounds.specs.RoundAnswer.{seven_bytes, key_dealer}
use Rattle.writing.proofs.Sheets.{then}
use native.Mathlib.Omega.{arith}
use Rattle.rounds.proofs.answering.put_seven.Goals as goal

pub put_two-a-requires : goal.put_two-a-requires
put_two-a-requires c = (omega (arith, c.requires.0.ante), omega (arith, c.requires.0.flop), omega arith, omega arith, omega (arith, c.requires.1))

pub put_two-requires : goal.put_two-requires
put_two-requires c = (omega (arith, c.requires.0.turn), omega (arith, c.requires.0.river), omega arith, omega arith, omega (arith, c.requires.1, c.put_two-a.ensures.1))

pub put_two-requires-2 : goal.put_two-requires-2
put_two-requires-2 c = (omega (arith, c.requires.0.jackpot), omega (arith, c.requires.0.extra), omega arith, omega arith, omega (arith, c.requires.1, c.put_two-a.ensures.1, c.put_two.ensures.1))

pub write_number_line-requires : goal.write_number_line-requires
write_number_line-requires c = (omega (arith, c.requires.0.dealer), omega (arith, c.requires.1, c.put_two-a.ensures.1, c.put_two.ensures.1, c.put_two-2.ensures.1, line_most key_dealer c.args.s.dealer (omega arith)))

pub overflow_add-result : goal.overflow_add-result
overflow_add-result c = omega (arith, c.put_two-a.ensures.1, c.put_two.ensures.1, c.put_two-2.ensures.1, c.write_number_line.ensures.count, line_most key_dealer c.args.s.dealer (omega arith))

pub returns : goal.returns
unfolding seven_bytes
returns c = (then (then (then c.put_two-a.ensures.0 c.put_two.ensures.0) c.put_two-2.ensures.0) c.write_number_line.ensures, omega (arith, c.put_two-a.ensures.1, c.put_two.ensures.1, c.put_two-2.ensures.1, c.write_number_line.ensures.count, line_most key_dealer c.args.s.dealer (omega arith)))
