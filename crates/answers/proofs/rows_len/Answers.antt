-- `rows_len` meets its contract.
use mathlib.Core.Path.{◌≡◌, ap}
use mathlib.Core.List.{List}
use lib.ListN.{length, take, get_or, length-append}
use lib.Seq.{take_all}
use Rattle.answers.specs.declared.PaidRow.{PaidRow}
use Rattle.answers.specs.Answer.{joined, row_bytes}
use Rattle.answers.proofs.Blocks.{joined_more, joined_most, joined_room, row_most}
use native.Mathlib.Omega.{arith}
use Rattle.answers.proofs.rows_len.Goals as goal

abbrev none : PaidRow
none = record { sitting = 0; paid = 0 }

pub overflow_add-at : goal.overflow_add-at
overflow_add-at c =
    let rows = c.args.rows.now in
    omega (arith, joined_room row_bytes rows none c.loop-r.r-index (omega arith), joined_most row_bytes 33 row_most rows)

pub loop-r-preserved : goal.loop-r-preserved
loop-r-preserved c =
    let rows = c.args.rows.now in
    let i = c.loop-r.r-index in
    omega (arith, ap length (joined_more row_bytes rows none i (omega arith)), length-append (joined row_bytes (take i rows)) (row_bytes (get_or rows i none)))

pub returns : goal.returns
returns c =
    let rows = c.args.rows.now in
    let e : c.loop-r.at ≡ length (joined row_bytes rows) = omega (arith, ap (λ (l : List PaidRow). length (joined row_bytes l)) (take_all c.loop-r.r-index rows (omega arith))) in
    (e, omega (arith, joined_most row_bytes 33 row_most rows))
