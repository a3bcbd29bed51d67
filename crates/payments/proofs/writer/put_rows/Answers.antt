-- `payments::writer::put_rows` meets its contract: the rows, one behind the other. Assumes nothing.
use Rattle.payments.specs.Payments.{row_text}
use Rattle.rows.specs.Rows.{no_row}
use Rattle.answers.proofs.Blocks.{joined_more}
use Rattle.answers.specs.Answer.{joined}
use Rattle.writing.proofs.Sheets.{then}
use Rattle.writing.specs.AnswerSheet.{Wrote}
use borrow.Author.Rules.{rules}
use native.Mathlib.Omega.{arith}
use lib.ListN.{length, take, length-take}
use lib.Seq.{take_all}
use Rattle.rows.specs.declared.Row.{Row}
use Rattle.teller.specs.Keeping.{SmallRow}
use Rattle.payments.proofs.SmallRows.{take_each}
use Prim.Native.Nat.{◌≤◌}
use mathlib.Core.List.{List}
use mathlib.Core.Path.{refl, subst}
use Rattle.payments.proofs.writer.put_rows.Goals as goal

pub loop-r-init : goal.loop-r-init
loop-r-init c = (refl, record { count = refl; sheet = refl }, omega arith)

pub slice_bounds-put_row-count : goal.slice_bounds-put_row-count
slice_bounds-put_row-count c = omega (arith, length-take c.args.n c.args.row, c.requires.0, c.requires.2, c.loop-r.invariant.0, c.loop-r.invariant.2, c.loop-r-test.true)

pub slice_bounds-put_row-start : goal.slice_bounds-put_row-start
slice_bounds-put_row-start c = omega (arith, length-take c.args.n c.args.row, c.requires.0, c.requires.2, c.loop-r.invariant.0, c.loop-r.invariant.2, c.loop-r-test.true)

pub put_row-at-requires : goal.put_row-at-requires
put_row-at-requires c = (take_each SmallRow no_row c.args.n c.args.row c.requires.1 c.loop-r.r-index, omega (arith, length-take c.args.n c.args.row, c.requires.0, c.requires.2, c.loop-r.invariant.0, c.loop-r.invariant.2, c.loop-r-test.true))

pub overflow_add-at : goal.overflow_add-at
overflow_add-at c = omega (arith, length-take c.args.n c.args.row, c.requires.0, c.loop-r.invariant.2, c.put_row-at.ensures.1)

pub loop-r-preserved : goal.loop-r-preserved
loop-r-preserved c = (search rules, rw (joined_more row_text (take c.args.n c.args.row) no_row c.loop-r.r-index (omega arith)) (then c.loop-r.invariant.1 c.put_row-at.ensures.0), omega (arith, c.loop-r.invariant.2, c.put_row-at.ensures.1))

pub returns : goal.returns
returns c = let over : length (take c.args.n c.args.row) ≤ c.loop-r.r-index = omega arith in
    (subst (λ (t : List Row). Wrote (joined row_text t) c.args.out.now c.loop-r.out c.loop-r.at) (take_all c.loop-r.r-index (take c.args.n c.args.row) over) c.loop-r.invariant.1, omega (arith, c.requires.0, c.loop-r.invariant.2, length-take c.args.n c.args.row))
