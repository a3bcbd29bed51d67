-- `hear_part` meets its contract.
use mathlib.Core.Path.{ap, refl}
use Rattle.text.proofs.Parts.{part_is}
use lib.ListN.{length, length-drop}
use native.Mathlib.Omega.{arith}
use borrow.Author.Rules.{rules}
use Rattle.try_chops.proofs.served.hear_part.Goals as goal

pub loop-buf-init : goal.loop-buf-init
loop-buf-init c = let s = c in (refl, refl, s.requires.0, s.requires.2, omega arith)

pub goes_on-requires : goal.goes_on-requires
goes_on-requires c = let i = c.loop-buf.invariant in omega (arith, i.1, i.3)

pub slice_bounds-hear_one-count : goal.slice_bounds-hear_one-count
slice_bounds-hear_one-count c = let i = c.loop-buf.invariant in omega (arith, i.4)

pub slice_bounds-hear_one-start : goal.slice_bounds-hear_one-start
slice_bounds-hear_one-start c = let i = c.loop-buf.invariant in omega (arith, i.4)

pub slice_bounds-hear_one-end : goal.slice_bounds-hear_one-end
slice_bounds-hear_one-end c = let i = c.loop-buf.invariant in omega (arith, i.4)

pub hear_one-r-requires : goal.hear_one-r-requires
hear_one-r-requires c = let i = c.loop-buf.invariant in (i.2, omega (arith, c.requires.1, i.0), (c.goes_on.ensures c.loop-buf-test.true).1)

pub overflow_add-used : goal.overflow_add-used
overflow_add-used c = let g = c.loop-buf in omega (arith, c.well_formed, g.invariant.4, c.hear_one-r.ensures.1, ap length (part_is g.used c.args.part.now), length-drop g.used c.args.part.now)

pub loop-buf-smaller : goal.loop-buf-smaller
loop-buf-smaller c = let g = c.loop-buf in
    let t = (c.goes_on.ensures c.loop-buf-test.true).0 in
    let e = ap length (part_is g.used c.args.part.now) in
    omega (arith, t, c.hear_one-r.ensures.2 (omega (arith, t, e, length-drop g.used c.args.part.now)))

pub loop-buf-preserved : goal.loop-buf-preserved
loop-buf-preserved c = let g = c.loop-buf in
    (search rules, search rules, c.hear_one-r.ensures.0, omega (arith, c.hear_one-r.ensures.3, g.invariant.1), omega (arith, g.invariant.4, c.hear_one-r.ensures.1, ap length (part_is g.used c.args.part.now), length-drop g.used c.args.part.now))

pub shape_of-buf : goal.shape_of-buf
shape_of-buf c = c.loop-buf.invariant.0

pub shape_of-trace : goal.shape_of-trace
shape_of-trace c = c.loop-buf.invariant.1

pub returns : goal.returns
returns c = let i = c.loop-buf.invariant in (i.2, i.3)
