-- `feed_on` meets its contract: at each turn what was written, and what is to be written from there on, is said by `Feeding`.
use mathlib.Core.Path.{refl}
use native.Mathlib.Omega.{arith}
use Rattle.stream.proofs.On.{on_start, on_turn, on_used, on_room, on_moves, on_done}
use Rattle.stream.proofs.feed_on.Goals as goal

pub loop-used-init : goal.loop-used-init
loop-used-init c = let s = c in on_start s.args.c s.args.buf.now s.args.part.now s.args.out.now s.requires.0 s.requires.1

pub overflow_sub-out : goal.overflow_sub-out
overflow_sub-out c = let g = c.loop-used.invariant in omega (arith, g.within, g.same)

pub slice_bounds-feed-count : goal.slice_bounds-feed-count
slice_bounds-feed-count c = let g = c.loop-used.invariant in omega (arith, g.inside)

pub slice_bounds-feed-start : goal.slice_bounds-feed-start
slice_bounds-feed-start c = let g = c.loop-used.invariant in omega (arith, g.inside)

pub slice_bounds-feed-end : goal.slice_bounds-feed-end
slice_bounds-feed-end c = let g = c.loop-used.invariant in omega (arith, g.inside)

pub slice_bounds-feed-count-in-loop-used : goal.slice_bounds-feed-count-in-loop-used
slice_bounds-feed-count-in-loop-used c = let g = c.loop-used.invariant in omega (arith, g.within, g.same)

pub slice_bounds-feed-start-in-loop-used : goal.slice_bounds-feed-start-in-loop-used
slice_bounds-feed-start-in-loop-used c = let g = c.loop-used.invariant in omega (arith, g.within, g.same)

pub slice_bounds-feed-end-in-loop-used : goal.slice_bounds-feed-end-in-loop-used
slice_bounds-feed-end-in-loop-used c = let g = c.loop-used.invariant in omega (arith, g.within, g.same)

pub feed-f-requires : goal.feed-f-requires
feed-f-requires c = let g = c.loop-used.invariant in (g.held, omega (arith, c.requires.1, g.size))

pub overflow_add-used : goal.overflow_add-used
overflow_add-used c = let s = c in omega (arith, s.well_formed, on_used c.loop-used.invariant c.feed-f.ensures.held.1)

pub overflow_add-at : goal.overflow_add-at
overflow_add-at c = let s = c in omega (arith, s.well_formed, c.loop-used.invariant.same, on_room c.loop-used.invariant c.feed-f.ensures.held.3)

pub loop-used-smaller : goal.loop-used-smaller
loop-used-smaller c = (on_moves c.loop-used.invariant c.loop-used-test.true c.feed-f.ensures.held.2).1

pub loop-used-preserved : goal.loop-used-preserved
loop-used-preserved c =
    let g = c.loop-used.invariant in
    let f = c.feed-f.ensures in
    let auto = c.feed-f.auto in
    on_turn g c.if-out-at-ge-LONGEST.true f.fed f.held.0 (on_moves g c.loop-used-test.true f.held.2).0 f.held.1 f.held.3 refl auto.out auto.buf

pub returns-after-loop-used : goal.returns-after-loop-used
returns-after-loop-used c = let r = on_done c.loop-used.invariant (λ l. absurd (omega arith)) in record { fed = r.0; held = r.1.0; far = r.1.1 }

pub returns-else-out-at-ge-LONGEST : goal.returns-else-out-at-ge-LONGEST
returns-else-out-at-ge-LONGEST c = let r = on_done c.loop-used.invariant (λ l. c.if-out-at-ge-LONGEST.false) in record { fed = r.0; held = r.1.0; far = r.1.1 }
