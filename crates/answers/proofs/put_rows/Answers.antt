-- `put_rows` meets its contract.
use Rattle.answers.specs.declared.PaidRow.{PaidRow}
use Rattle.answers.specs.Answer.{row_bytes}
use Rattle.answers.proofs.Blocks.{joined_more, joined_room}
use Rattle.writing.proofs.Sheets.{then}
use native.Mathlib.Omega.{arith}
use Rattle.answers.proofs.put_rows.Goals as goal

abbrev none : PaidRow
none = record { sitting = 0; paid = 0 }

pub put_row-at-requires : goal.put_row-at-requires
put_row-at-requires c =
    let i = c.loop-r.r-index in
    (c.requires.0 i, omega (arith, joined_room row_bytes c.args.rows.now none i (omega arith)))

pub loop-r-preserved : goal.loop-r-preserved
loop-r-preserved c =
    rw (joined_more row_bytes c.args.rows.now none c.loop-r.r-index (omega arith)) (then c.loop-r.invariant c.put_row-at.ensures)
