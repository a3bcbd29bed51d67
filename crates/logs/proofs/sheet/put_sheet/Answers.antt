-- `put_sheet` meets its contract: each line is written behind the ones before it, by the table.
use borrow.Author.Rules.{rules}
use native.Mathlib.Omega.{arith}
use mathlib.Core.Path.{refl}
use Rattle.logs.proofs.Puts.{values_count, values_small, going_start, going_room, going_part, going_turn, going_done}
use Rattle.logs.proofs.sheet.put_sheet.Goals as goal

pub loop-k-init : goal.loop-k-init
loop-k-init c = going_start c.args.s _ _ c.values_of-values.ensures c.requires.1

pub slice_bounds-put_line-count : goal.slice_bounds-put_line-count
slice_bounds-put_line-count c = omega (arith, going_room c.loop-k.invariant (values_count c.args.s c.values_of-values.ensures) (omega arith))

pub slice_bounds-put_line-start : goal.slice_bounds-put_line-start
slice_bounds-put_line-start c = omega (arith, going_room c.loop-k.invariant (values_count c.args.s c.values_of-values.ensures) (omega arith))

pub put_line-at-requires : goal.put_line-at-requires
put_line-at-requires c = (omega arith, values_small c.args.s c.requires.0 c.values_of-values.ensures c.loop-k.k (omega arith), going_part c.loop-k.invariant (values_count c.args.s c.values_of-values.ensures) (omega arith))

pub overflow_add-at : goal.overflow_add-at
overflow_add-at c = omega (arith, c.put_line-at.ensures.count, going_room c.loop-k.invariant (values_count c.args.s c.values_of-values.ensures) (omega arith))

pub loop-k-preserved : goal.loop-k-preserved
loop-k-preserved c = going_turn c.loop-k.invariant (values_count c.args.s c.values_of-values.ensures) (omega arith) c.put_line-at.ensures refl (search rules)

pub returns : goal.returns
returns c = going_done c.loop-k.invariant c.args.s c.values_of-values.ensures (omega arith)
