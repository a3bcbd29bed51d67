-- `put_payout` meets its contract.
use native.Mathlib.Omega.{arith}
use Rattle.writing.proofs.Sheets.{then}
use Rattle.answers.proofs.Blocks.{payout_count}
use Rattle.answers.specs.Answer.{payout_bytes}
use Rattle.answers.proofs.put_payout.Goals as goal

pub write_number_line-a-requires : goal.write_number_line-a-requires
write_number_line-a-requires c = omega (arith, payout_count c.args.p)

pub slice_bounds-put_jackpot-count : goal.slice_bounds-put_jackpot-count
slice_bounds-put_jackpot-count c = omega (arith, payout_count c.args.p)

pub slice_bounds-put_jackpot-start : goal.slice_bounds-put_jackpot-start
slice_bounds-put_jackpot-start c = omega (arith, payout_count c.args.p)

pub put_jackpot-requires : goal.put_jackpot-requires
put_jackpot-requires c = (c.requires.0.jackpot, omega (arith, payout_count c.args.p))

pub overflow_add-b : goal.overflow_add-b
overflow_add-b c = omega (arith, payout_count c.args.p)

pub slice_bounds-put_rows-count : goal.slice_bounds-put_rows-count
slice_bounds-put_rows-count c = omega (arith, payout_count c.args.p)

pub slice_bounds-put_rows-start : goal.slice_bounds-put_rows-start
slice_bounds-put_rows-start c = omega (arith, payout_count c.args.p)

pub put_rows-requires : goal.put_rows-requires
put_rows-requires c = (c.requires.0.rows, omega (arith, payout_count c.args.p))

pub overflow_add-c : goal.overflow_add-c
overflow_add-c c = omega (arith, payout_count c.args.p)

pub slice_bounds-write_number_line-count : goal.slice_bounds-write_number_line-count
slice_bounds-write_number_line-count c = omega (arith, payout_count c.args.p)

pub slice_bounds-write_number_line-start : goal.slice_bounds-write_number_line-start
slice_bounds-write_number_line-start c = omega (arith, payout_count c.args.p)

pub write_number_line-requires : goal.write_number_line-requires
write_number_line-requires c = omega (arith, payout_count c.args.p)

pub overflow_add-result : goal.overflow_add-result
overflow_add-result c = omega (arith, payout_count c.args.p)

pub returns : goal.returns
unfolding payout_bytes
returns c = then (then (then c.write_number_line-a.ensures c.put_jackpot.ensures) c.put_rows.ensures) c.write_number_line.ensures
