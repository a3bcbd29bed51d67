-- `rounds::answering::put_two` meets its contract. Assumes nothing.
use Rattle.rounds.proofs.Lengths.{line_most}
use Rattle.rounds.specs.RoundAnswer.{two_bytes}
use Rattle.writing.proofs.Sheets.{then}
use native.Mathlib.Omega.{arith}
use Rattle.rounds.proofs.answering.put_two.Goals as goal

pub write_number_line-at-requires : goal.write_number_line-at-requires
write_number_line-at-requires c = (c.requires.0, omega (arith, c.requires.4, line_most c.args.first.now c.args.x c.requires.2))

pub slice_bounds-write_number_line-count : goal.slice_bounds-write_number_line-count
slice_bounds-write_number_line-count c = omega (arith, c.requires.4, c.write_number_line-at.ensures.count, line_most c.args.first.now c.args.x c.requires.2)

pub slice_bounds-write_number_line-start : goal.slice_bounds-write_number_line-start
slice_bounds-write_number_line-start c = omega (arith, c.requires.4, c.write_number_line-at.ensures.count, line_most c.args.first.now c.args.x c.requires.2)

pub write_number_line-requires : goal.write_number_line-requires
write_number_line-requires c = (c.requires.1, omega (arith, c.requires.4, c.write_number_line-at.ensures.count, line_most c.args.first.now c.args.x c.requires.2, line_most c.args.second.now c.args.y c.requires.3))

pub overflow_add-result : goal.overflow_add-result
overflow_add-result c = omega (arith, c.write_number_line-at.ensures.count, c.write_number_line.ensures.count, line_most c.args.first.now c.args.x c.requires.2, line_most c.args.second.now c.args.y c.requires.3)

pub returns : goal.returns
unfolding two_bytes
returns c = (then c.write_number_line-at.ensures c.write_number_line.ensures, omega (arith, c.write_number_line-at.ensures.count, c.write_number_line.ensures.count, line_most c.args.first.now c.args.x c.requires.2, line_most c.args.second.now c.args.y c.requires.3))
