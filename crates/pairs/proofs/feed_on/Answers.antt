-- `feed_on` meets its contract: line after line, as long as bytes and room are left.
use mathlib.Core.Path.{refl}
use Prim.Native.Nat.{◌-◌}
use native.Mathlib.Omega.{arith}
use lib.ListN.{length}
use borrow.Author.Rules.{rules}
use Rattle.pairs.proofs.On.{on_start, goes_when, on_used, on_room, on_moves, on_turn, on_done}
use Rattle.pairs.proofs.feed_on.Goals as goal

pub loop-buf-init : goal.loop-buf-init
loop-buf-init c = let s = c in (on_start s.args.only s.args.p s.args.f s.args.buf.now s.args.part.now s.args.out.now s.requires.0 s.requires.1, s.requires.2)

pub overflow_sub-out : goal.overflow_sub-out
overflow_sub-out c = let g = c.loop-buf.invariant.0 in omega (arith, g.within, g.same)

pub slice_bounds-feed-count : goal.slice_bounds-feed-count
slice_bounds-feed-count c = let g = c.loop-buf.invariant.0 in omega (arith, g.inside)

pub slice_bounds-feed-start : goal.slice_bounds-feed-start
slice_bounds-feed-start c = let g = c.loop-buf.invariant.0 in omega (arith, g.inside)

pub slice_bounds-feed-end : goal.slice_bounds-feed-end
slice_bounds-feed-end c = let g = c.loop-buf.invariant.0 in omega (arith, g.inside)

pub slice_bounds-feed-count-in-loop-buf : goal.slice_bounds-feed-count-in-loop-buf
slice_bounds-feed-count-in-loop-buf c = let g = c.loop-buf.invariant.0 in omega (arith, g.within, g.same)

pub slice_bounds-feed-start-in-loop-buf : goal.slice_bounds-feed-start-in-loop-buf
slice_bounds-feed-start-in-loop-buf c = let g = c.loop-buf.invariant.0 in omega (arith, g.within, g.same)

pub slice_bounds-feed-end-in-loop-buf : goal.slice_bounds-feed-end-in-loop-buf
slice_bounds-feed-end-in-loop-buf c = let g = c.loop-buf.invariant.0 in omega (arith, g.within, g.same)

pub feed-d-requires : goal.feed-d-requires
feed-d-requires c = let g = c.loop-buf in let t = goes_when g.used (length c.args.part.now) (length g.out - g.at) c.goes_on.ensures c.loop-buf-test.true in (g.invariant.0.good, g.invariant.0.held, g.invariant.1, omega (arith, c.requires.3, g.invariant.0.size), search rules)

pub overflow_add-used : goal.overflow_add-used
overflow_add-used c = omega (arith, c.well_formed, on_used c.loop-buf.invariant.0 c.feed-d.ensures.held.2)

pub overflow_add-at : goal.overflow_add-at
overflow_add-at c = omega (arith, c.well_formed, c.loop-buf.invariant.0.same, on_room c.loop-buf.invariant.0 c.feed-d.ensures.held.4)

pub loop-buf-smaller : goal.loop-buf-smaller
loop-buf-smaller c = let g = c.loop-buf in let t = goes_when g.used (length c.args.part.now) (length g.out - g.at) c.goes_on.ensures c.loop-buf-test.true in (on_moves g.invariant.0 t.0 c.feed-d.ensures.held.3).1

pub loop-buf-preserved : goal.loop-buf-preserved
loop-buf-preserved c = let g = c.loop-buf in let f = c.feed-d.ensures in let t = goes_when g.used (length c.args.part.now) (length g.out - g.at) c.goes_on.ensures c.loop-buf-test.true in (on_turn g.invariant.0 f.fed f.held.0 f.held.1 (on_moves g.invariant.0 t.0 f.held.3).0 f.held.2 f.held.4 refl c.out-1.given.0 (search rules), g.invariant.1)

pub shape_of-buf : goal.shape_of-buf
shape_of-buf c = c.loop-buf.invariant.0.size

pub shape_of-out : goal.shape_of-out
shape_of-out c = c.loop-buf.invariant.0.same

pub returns : goal.returns
returns c = let r = on_done c.loop-buf.invariant.0 c.goes_on.ensures c.loop-buf-test.false in record { fed = r.0; held = r.1.0; far = r.1.1 }
