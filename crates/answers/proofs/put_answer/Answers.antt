-- `put_answer` meets its contract.
use Rattle.answers.proofs.Blocks.{answer_first, settled_count, answer_plain, answer_settled}
use Rattle.writing.proofs.Sheets.{then}
use native.Mathlib.Omega.{arith}
use Rattle.answers.proofs.put_answer.Goals as goal

pub put_table-at-requires : goal.put_table-at-requires
put_table-at-requires c =
    (c.requires.0, omega (arith, answer_first c.args.s))

pub slice_bounds-put_payout-count : goal.slice_bounds-put_payout-count
slice_bounds-put_payout-count c =
    omega (arith, settled_count c.args.s c.if-s.true)

pub slice_bounds-put_payout-start : goal.slice_bounds-put_payout-start
slice_bounds-put_payout-start c =
    omega (arith, settled_count c.args.s c.if-s.true)

pub put_payout-requires : goal.put_payout-requires
put_payout-requires c =
    (c.requires.0.payout, omega (arith, settled_count c.args.s c.if-s.true))

pub overflow_add-result : goal.overflow_add-result
overflow_add-result c =
    omega (arith, settled_count c.args.s c.if-s.true)

pub returns-then-s : goal.returns-then-s
returns-then-s c =
    rw (answer_settled c.args.s c.if-s.true) (then c.put_table-at.ensures c.put_payout.ensures)

pub returns : goal.returns
returns c =
    rw (answer_plain c.args.s c.if-s.false) c.put_table-at.ensures
