-- `put_code` meets its contract: one line behind the other.
use native.Mathlib.Omega.{arith}
use Rattle.writing.proofs.Sheets.{then}
use Rattle.answers.proofs.Blocks.{two_count}
use Rattle.answers.specs.Answer.{two_bytes, key_n, key_code}
use Rattle.answers.proofs.put_code.Goals as goal

pub write_number_line-at-requires : goal.write_number_line-at-requires
write_number_line-at-requires c = let s = c in omega (arith, two_count key_n s.args.n key_code s.args.code)

pub slice_bounds-write_number_line-count : goal.slice_bounds-write_number_line-count
slice_bounds-write_number_line-count c = let s = c in omega (arith, two_count key_n s.args.n key_code s.args.code)

pub slice_bounds-write_number_line-start : goal.slice_bounds-write_number_line-start
slice_bounds-write_number_line-start c = let s = c in omega (arith, two_count key_n s.args.n key_code s.args.code)

pub write_number_line-requires : goal.write_number_line-requires
write_number_line-requires c = let s = c in omega (arith, two_count key_n s.args.n key_code s.args.code)

pub overflow_add-result : goal.overflow_add-result
overflow_add-result c = let s = c in omega (arith, two_count key_n s.args.n key_code s.args.code)

pub returns : goal.returns
unfolding two_bytes
returns c = then c.write_number_line-at.ensures c.write_number_line.ensures
