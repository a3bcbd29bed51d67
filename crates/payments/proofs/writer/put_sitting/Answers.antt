-- `payments::writer::put_sitting` meets its contract: a sitting's line and its part. Assumes nothing.
use Rattle.payments.specs.Payments.{sitting_text}
use Rattle.answers.proofs.Blocks.{line_most}
use Rattle.answers.specs.Answer.{key_sitting}
use Rattle.writing.proofs.Sheets.{then}
use native.Mathlib.Omega.{arith}
use Rattle.payments.proofs.writer.put_sitting.Goals as goal

pub write_number_line-at-requires : goal.write_number_line-at-requires
write_number_line-at-requires c = (c.requires.0, omega (arith, c.requires.3, line_most key_sitting c.args.sitting))

pub slice_bounds-put_gives-count : goal.slice_bounds-put_gives-count
slice_bounds-put_gives-count c = omega (arith, c.requires.3, c.write_number_line-at.ensures.count, line_most key_sitting c.args.sitting)

pub slice_bounds-put_gives-start : goal.slice_bounds-put_gives-start
slice_bounds-put_gives-start c = omega (arith, c.requires.3, c.write_number_line-at.ensures.count, line_most key_sitting c.args.sitting)

pub put_gives-requires : goal.put_gives-requires
put_gives-requires c = (c.requires.1, c.requires.2, omega (arith, c.requires.1, c.requires.3, c.write_number_line-at.ensures.count, line_most key_sitting c.args.sitting))

pub overflow_add-result : goal.overflow_add-result
overflow_add-result c = omega (arith, c.requires.1, c.write_number_line-at.ensures.count, c.put_gives.ensures.1, line_most key_sitting c.args.sitting)

pub returns : goal.returns
unfolding sitting_text
returns c = (then c.write_number_line-at.ensures c.put_gives.ensures.0, omega (arith, c.requires.1, c.write_number_line-at.ensures.count, c.put_gives.ensures.1, line_most key_sitting c.args.sitting))
