-- `end_one` meets its contract: one digit and the LF.
use native.Mathlib.Omega.{arith}
use Rattle.writing.proofs.Sheets.{then}
use Rattle.text.proofs.Numbers.{count_one}
use Rattle.writing.proofs.writer.end_one.Goals as goal

pub slice_bounds-put_byte-count : goal.slice_bounds-put_byte-count
slice_bounds-put_byte-count c = let s = c in omega (arith, count_one s.args.n s.requires.0, s.requires.1, c.put_one-c.ensures.count)

pub slice_bounds-put_byte-start : goal.slice_bounds-put_byte-start
slice_bounds-put_byte-start c = let s = c in omega (arith, count_one s.args.n s.requires.0, s.requires.1, c.put_one-c.ensures.count)

pub put_byte-requires : goal.put_byte-requires
put_byte-requires c = let s = c in omega (arith, count_one s.args.n s.requires.0, s.requires.1, c.put_one-c.ensures.count)

pub overflow_add-result : goal.overflow_add-result
overflow_add-result c = let s = c in omega (arith, count_one s.args.n s.requires.0, c.put_one-c.ensures.count, c.put_byte.ensures.count)

pub returns : goal.returns
returns c = then c.put_one-c.ensures c.put_byte.ensures
