-- `put_row` meets its contract: no lines, or one line behind the other.
use native.Mathlib.Omega.{arith}
use Rattle.writing.proofs.Sheets.{then, same_bytes}
use Rattle.answers.proofs.Blocks.{row_none, row_some, two_count}
use Rattle.answers.specs.Answer.{two_bytes, key_sitting, key_paid}
use lib.ListN.{length}
use mathlib.Core.Path.{refl, ap, ◌∙◌}
use Rattle.answers.proofs.put_row.Goals as goal

pub returns-then-s-eq0 : goal.returns-then-s-eq0
returns-then-s-eq0 c = rw (row_none c.args.r c.if-s-eq0.true) (record { count = refl; sheet = refl })

pub write_number_line-at-requires : goal.write_number_line-at-requires
write_number_line-at-requires c = let r = c.args.r in omega (arith, ap length (row_some r c.if-s-eq0.false) ∙ two_count key_sitting r.sitting key_paid r.paid)

pub slice_bounds-write_number_line-count : goal.slice_bounds-write_number_line-count
slice_bounds-write_number_line-count c = let r = c.args.r in omega (arith, ap length (row_some r c.if-s-eq0.false) ∙ two_count key_sitting r.sitting key_paid r.paid)

pub slice_bounds-write_number_line-start : goal.slice_bounds-write_number_line-start
slice_bounds-write_number_line-start c = let r = c.args.r in omega (arith, ap length (row_some r c.if-s-eq0.false) ∙ two_count key_sitting r.sitting key_paid r.paid)

pub write_number_line-requires : goal.write_number_line-requires
write_number_line-requires c = let r = c.args.r in omega (arith, ap length (row_some r c.if-s-eq0.false) ∙ two_count key_sitting r.sitting key_paid r.paid)

pub overflow_add-result : goal.overflow_add-result
overflow_add-result c = let r = c.args.r in omega (arith, ap length (row_some r c.if-s-eq0.false) ∙ two_count key_sitting r.sitting key_paid r.paid)

pub returns : goal.returns
unfolding two_bytes
returns c = same_bytes (row_some c.args.r c.if-s-eq0.false) (then c.write_number_line-at.ensures c.write_number_line.ensures)
