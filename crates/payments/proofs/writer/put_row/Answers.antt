-- `payments::writer::put_row` meets its contract: a row's two lines. Assumes nothing.
use Rattle.payments.specs.Payments.{row_text}
use Rattle.teller.specs.Lines.{key_worth, key_count}
use Rattle.answers.proofs.Blocks.{line_most}
use Rattle.writing.proofs.Sheets.{then}
use native.Mathlib.Omega.{arith}
use Rattle.payments.proofs.writer.put_row.Goals as goal

pub write_number_line-at-requires : goal.write_number_line-at-requires
write_number_line-at-requires c = (c.requires.0.worth, omega (arith, c.requires.1, line_most key_worth c.args.r.worth))

pub slice_bounds-write_number_line-count : goal.slice_bounds-write_number_line-count
slice_bounds-write_number_line-count c = omega (arith, c.requires.1, c.write_number_line-at.ensures.count, line_most key_worth c.args.r.worth)

pub slice_bounds-write_number_line-start : goal.slice_bounds-write_number_line-start
slice_bounds-write_number_line-start c = omega (arith, c.requires.1, c.write_number_line-at.ensures.count, line_most key_worth c.args.r.worth)

pub write_number_line-requires : goal.write_number_line-requires
write_number_line-requires c = (c.requires.0.count, omega (arith, c.requires.1, c.write_number_line-at.ensures.count, line_most key_worth c.args.r.worth, line_most key_count c.args.r.count))

pub overflow_add-result : goal.overflow_add-result
overflow_add-result c = omega (arith, c.write_number_line-at.ensures.count, c.write_number_line.ensures.count, line_most key_worth c.args.r.worth, line_most key_count c.args.r.count)

pub returns : goal.returns
unfolding row_text
returns c = (then c.write_number_line-at.ensures c.write_number_line.ensures, omega (arith, c.write_number_line-at.ensures.count, c.write_number_line.ensures.count, line_most key_worth c.args.r.worth, line_most key_count c.args.r.count))
