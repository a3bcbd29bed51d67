-- `hear_on` meets its contract: line after line, and nothing is whole but at the end.
use Rattle.pairs.proofs.Gathers.{hear_start, turn_used, turn_less, hear_turn, hear_done, goes_on_when}
use lib.ListN.{length}
use borrow.Author.Rules.{rules}
use native.Mathlib.Omega.{arith}
use Rattle.pairs.proofs.hear_on.Goals as goal

pub loop-from-init : goal.loop-from-init
loop-from-init c = (hear_start c.args.f c.args.buf.now c.args.part.now c.requires.0, c.requires.1)

pub slice_bounds-hear-count : goal.slice_bounds-hear-count
slice_bounds-hear-count c = omega (arith, c.loop-from.invariant.0.inside)

pub slice_bounds-hear-start : goal.slice_bounds-hear-start
slice_bounds-hear-start c = omega (arith, c.loop-from.invariant.0.inside)

pub slice_bounds-hear-end : goal.slice_bounds-hear-end
slice_bounds-hear-end c = omega (arith, c.loop-from.invariant.0.inside)

pub hear-k-requires : goal.hear-k-requires
hear-k-requires c = (c.loop-from.invariant.0.held, omega (arith, c.loop-from.invariant.0.size, c.loop-from.invariant.1))

pub overflow_add-next : goal.overflow_add-next
overflow_add-next c = omega (arith, c.well_formed, turn_used _ _ _ _ _ c.loop-from.invariant.0 c.hear-k.ensures.held.1)

pub loop-from-smaller : goal.loop-from-smaller
loop-from-smaller c = let t = goes_on_when c.loop-from.h.what c.loop-from.h.used (length c.args.part.now) c.is_none.result c.is_none.ensures c.both.ensures c.loop-from-test.true in turn_less _ _ _ _ _ c.loop-from.invariant.0 t.1 c.hear-k.ensures.held.2

pub loop-from-preserved : goal.loop-from-preserved
loop-from-preserved c = let t = goes_on_when c.loop-from.h.what c.loop-from.h.used (length c.args.part.now) c.is_none.result c.is_none.ensures c.both.ensures c.loop-from-test.true in (hear_turn c.args.f c.args.buf.now c.args.part.now c.loop-from.buf c.loop-from.h c.loop-from.invariant.0 c.hear-k.result _ c.loop-from.invariant.1 t.0 t.1 c.hear-k.ensures.heard c.hear-k.ensures.kept c.hear-k.ensures.held (search rules), c.loop-from.invariant.1)

pub shape_of-buf : goal.shape_of-buf
shape_of-buf c = c.loop-from.invariant.0.size

pub returns : goal.returns
returns c = let g = c.loop-from.invariant.0 in record { heard = g.said; held = (g.held, g.inside, hear_done _ _ _ _ _ g c.is_none.result c.is_none.ensures c.both.ensures c.loop-from-test.false, g.count) }
