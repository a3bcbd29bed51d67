-- `put_table` meets its contract.
use Rattle.answers.specs.Answer.{table_bytes}
use Rattle.answers.proofs.Blocks.{table_count}
use Rattle.writing.proofs.Sheets.{then}
use lib.ListN.{length-take}
use lib.Seq.{get_or-take}
use native.Mathlib.Omega.{arith}
use Rattle.answers.proofs.put_table.Goals as goal

pub put_state-a-requires : goal.put_state-a-requires
put_state-a-requires c =
    let s = c in
    ((s.requires.0.n, s.requires.0.code, s.requires.0.turn, s.requires.0.mark), omega (arith, table_count s.args.s))

pub slice_bounds-put_pots-count : goal.slice_bounds-put_pots-count
slice_bounds-put_pots-count c =
    let s = c in
    omega (arith, table_count s.args.s)

pub slice_bounds-put_pots-start : goal.slice_bounds-put_pots-start
slice_bounds-put_pots-start c =
    let s = c in
    omega (arith, table_count s.args.s)

pub put_pots-requires : goal.put_pots-requires
put_pots-requires c =
    let s = c in
    let p = s.args.s.pots in (
      λ k h. rw (get_or-take p.n p.list k (record { amount = 0; who = 0 }) (omega (arith, length-take p.n p.list))) (s.requires.0.pots k),
      omega (arith, table_count s.args.s),
    )

pub overflow_add-b : goal.overflow_add-b
overflow_add-b c =
    let s = c in
    omega (arith, table_count s.args.s)

pub slice_bounds-write_number_line-count : goal.slice_bounds-write_number_line-count
slice_bounds-write_number_line-count c =
    let s = c in
    omega (arith, table_count s.args.s)

pub slice_bounds-write_number_line-start : goal.slice_bounds-write_number_line-start
slice_bounds-write_number_line-start c =
    let s = c in
    omega (arith, table_count s.args.s)

pub write_number_line-requires : goal.write_number_line-requires
write_number_line-requires c =
    let s = c in
    omega (arith, table_count s.args.s)

pub overflow_add-result : goal.overflow_add-result
overflow_add-result c =
    let s = c in
    omega (arith, table_count s.args.s)

pub returns : goal.returns
unfolding table_bytes
returns c =
    then (then c.put_state-a.ensures c.put_pots.ensures) c.write_number_line.ensures
