-- `put_note` meets its contract: each writer writes behind the ones before it.
use Rattle.logs.proofs.Copies.{note_parts}
use Rattle.logs.specs.FairCopy.{note_text}
use Rattle.writing.proofs.Sheets.{then}
use native.Mathlib.Omega.{arith}
use Rattle.logs.proofs.copy.put_note.Goals as goal

pub put_bytes-a-requires : goal.put_bytes-a-requires
put_bytes-a-requires c = omega (arith, note_parts c.args.number c.args.code)

pub slice_bounds-put_digits-count : goal.slice_bounds-put_digits-count
slice_bounds-put_digits-count c = omega (arith, note_parts c.args.number c.args.code)

pub slice_bounds-put_digits-start : goal.slice_bounds-put_digits-start
slice_bounds-put_digits-start c = omega (arith, note_parts c.args.number c.args.code)

pub put_digits-requires : goal.put_digits-requires
put_digits-requires c = (c.requires.0, omega (arith, note_parts c.args.number c.args.code))

pub overflow_add-b : goal.overflow_add-b
overflow_add-b c = omega (arith, note_parts c.args.number c.args.code)

pub slice_bounds-write_number_line-count : goal.slice_bounds-write_number_line-count
slice_bounds-write_number_line-count c = omega (arith, note_parts c.args.number c.args.code)

pub slice_bounds-write_number_line-start : goal.slice_bounds-write_number_line-start
slice_bounds-write_number_line-start c = omega (arith, note_parts c.args.number c.args.code)

pub write_number_line-requires : goal.write_number_line-requires
write_number_line-requires c = (c.requires.1, omega (arith, note_parts c.args.number c.args.code))

pub overflow_add-result : goal.overflow_add-result
overflow_add-result c = omega (arith, note_parts c.args.number c.args.code)

pub returns : goal.returns
unfolding note_text
returns c = then (then c.put_bytes-a.ensures c.put_digits.ensures) c.write_number_line.ensures
