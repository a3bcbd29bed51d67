-- `payments::writer::put_tray` meets its contract: the tray as it stands. Assumes nothing.
use Rattle.payments.specs.Payments.{tray_text}
use Rattle.teller.specs.Lines.{key_rows}
use Rattle.answers.proofs.Blocks.{line_most}
use Rattle.writing.proofs.Sheets.{then}
use native.Mathlib.Omega.{arith}
use Rattle.payments.proofs.writer.put_tray.Goals as goal

pub write_number_line-at-requires : goal.write_number_line-at-requires
write_number_line-at-requires c = (omega (arith, c.requires.0), omega (arith, c.requires.2, line_most key_rows c.args.t.rows))

pub slice_bounds-put_rows-count : goal.slice_bounds-put_rows-count
slice_bounds-put_rows-count c = omega (arith, c.requires.2, c.write_number_line-at.ensures.count, line_most key_rows c.args.t.rows)

pub slice_bounds-put_rows-start : goal.slice_bounds-put_rows-start
slice_bounds-put_rows-start c = omega (arith, c.requires.2, c.write_number_line-at.ensures.count, line_most key_rows c.args.t.rows)

pub put_rows-requires : goal.put_rows-requires
put_rows-requires c = (c.requires.0, c.requires.1, omega (arith, c.requires.2, c.write_number_line-at.ensures.count, line_most key_rows c.args.t.rows))

pub overflow_add-result : goal.overflow_add-result
overflow_add-result c = omega (arith, c.write_number_line-at.ensures.count, c.put_rows.ensures.1, line_most key_rows c.args.t.rows)

pub returns : goal.returns
unfolding tray_text
returns c = (then c.write_number_line-at.ensures c.put_rows.ensures.0, omega (arith, c.write_number_line-at.ensures.count, c.put_rows.ensures.1, line_most key_rows c.args.t.rows))
