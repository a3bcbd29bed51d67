-- `put_shown` meets its contract.
use native.Mathlib.Omega.{arith}
use Rattle.frames.specs.Frames.{table_key}
use Rattle.writing.proofs.Sheets.{then}
use Rattle.couple.proofs.Tables.{line_most, shown_both, shown_one, shown_none}
use Rattle.couple.proofs.put_shown.Goals as goal

pub write_number_line-a-requires : goal.write_number_line-a-requires
write_number_line-a-requires c = (omega (arith, c.named-n.ensures.1), omega (arith, c.requires.1, line_most table_key c.named-n.result))

pub slice_bounds-put_bytes-count : goal.slice_bounds-put_bytes-count
slice_bounds-put_bytes-count c = omega (arith, c.requires.1, c.write_number_line-a.ensures.count, line_most table_key c.named-n.result)

pub slice_bounds-put_bytes-start : goal.slice_bounds-put_bytes-start
slice_bounds-put_bytes-start c = omega (arith, c.requires.1, c.write_number_line-a.ensures.count, line_most table_key c.named-n.result)

pub put_bytes-requires : goal.put_bytes-requires
put_bytes-requires c = omega (arith, c.requires.1, c.write_number_line-a.ensures.count, line_most table_key c.named-n.result)

pub overflow_add-result : goal.overflow_add-result
overflow_add-result c = omega (arith, c.requires.1, c.write_number_line-a.ensures.count, c.put_bytes.ensures.count, line_most table_key c.named-n.result)

pub returns-then-only-eq0 : goal.returns-then-only-eq0
returns-then-only-eq0 c = shown_both c.args.only c.args.due c.args.answer.now c.named-n.ensures.0 c.if-only-eq0.true (then c.write_number_line-a.ensures c.put_bytes.ensures)

pub returns-then-only-n : goal.returns-then-only-n
returns-then-only-n c = shown_one c.args.only c.args.due c.args.answer.now c.named-n.ensures.0 c.if-only-eq0.false (omega (arith, c.if-only-n.true)) c.put_bytes-then-only-n.ensures

pub returns : goal.returns
returns c = shown_none c.args.only c.args.due c.args.answer.now c.named-n.ensures.0 c.if-only-eq0.false (λ e. omega (arith, e, c.if-only-n.false))
