-- `copy_on` meets its contract: at each turn what was written, and what is heard so far, is said by `Feeding`.
use Rattle.copier.proofs.On.{on_start, on_used, on_room, on_notes, on_moves, on_turn, on_done}
use borrow.Author.Rules.{rules}
use mathlib.Core.Logic.{inl, inr}
use native.Mathlib.Omega.{arith}
use mathlib.Core.Path.{refl}
use Rattle.copier.proofs.copy_on.Goals as goal

pub loop-used-init : goal.loop-used-init
loop-used-init c = let s = c in on_start s.args.c s.args.buf.now s.args.part.now s.args.copy.now s.args.notes.now s.requires.0 s.requires.1

pub overflow_sub-copy : goal.overflow_sub-copy
overflow_sub-copy c = let g = c.loop-used.invariant in omega (arith, g.within, g.same)

pub overflow_sub-notes : goal.overflow_sub-notes
overflow_sub-notes c = let g = c.loop-used.invariant in omega (arith, g.among, g.even)

pub slice_bounds-feed-count : goal.slice_bounds-feed-count
slice_bounds-feed-count c = let g = c.loop-used.invariant in omega (arith, g.inside)

pub slice_bounds-feed-start : goal.slice_bounds-feed-start
slice_bounds-feed-start c = let g = c.loop-used.invariant in omega (arith, g.inside)

pub slice_bounds-feed-end : goal.slice_bounds-feed-end
slice_bounds-feed-end c = let g = c.loop-used.invariant in omega (arith, g.inside)

pub slice_bounds-feed-count-in-loop-used : goal.slice_bounds-feed-count-in-loop-used
slice_bounds-feed-count-in-loop-used c = let g = c.loop-used.invariant in omega (arith, g.within, g.same)

pub slice_bounds-feed-start-in-loop-used : goal.slice_bounds-feed-start-in-loop-used
slice_bounds-feed-start-in-loop-used c = let g = c.loop-used.invariant in omega (arith, g.within, g.same)

pub slice_bounds-feed-end-in-loop-used : goal.slice_bounds-feed-end-in-loop-used
slice_bounds-feed-end-in-loop-used c = let g = c.loop-used.invariant in omega (arith, g.within, g.same)

pub slice_bounds-feed-count-in-loop-used-2 : goal.slice_bounds-feed-count-in-loop-used-2
slice_bounds-feed-count-in-loop-used-2 c = let g = c.loop-used.invariant in omega (arith, g.among, g.even)

pub slice_bounds-feed-start-in-loop-used-2 : goal.slice_bounds-feed-start-in-loop-used-2
slice_bounds-feed-start-in-loop-used-2 c = let g = c.loop-used.invariant in omega (arith, g.among, g.even)

pub slice_bounds-feed-end-in-loop-used-2 : goal.slice_bounds-feed-end-in-loop-used-2
slice_bounds-feed-end-in-loop-used-2 c = let g = c.loop-used.invariant in omega (arith, g.among, g.even)

pub feed-f-requires : goal.feed-f-requires
feed-f-requires c = let g = c.loop-used.invariant in (g.held, omega (arith, c.requires.1, g.size), search rules, search rules)

pub overflow_add-used : goal.overflow_add-used
overflow_add-used c = omega (arith, c.well_formed, on_used c.loop-used.invariant c.feed-f.ensures.held.1)

pub overflow_add-at : goal.overflow_add-at
overflow_add-at c = omega (arith, c.well_formed, c.loop-used.invariant.same, on_room c.loop-used.invariant c.feed-f.ensures.held.3)

pub overflow_add-said : goal.overflow_add-said
overflow_add-said c = omega (arith, c.well_formed, c.loop-used.invariant.even, on_notes c.loop-used.invariant c.feed-f.ensures.held.4)

pub loop-used-smaller : goal.loop-used-smaller
loop-used-smaller c = (on_moves c.loop-used.invariant c.loop-used-test.true c.feed-f.ensures.held.2).1

pub loop-used-preserved : goal.loop-used-preserved
loop-used-preserved c =
    let g = c.loop-used.invariant in
    let f = c.feed-f.ensures in
    let auto = c.feed-f.auto in
    on_turn g f.fed f.held.0 (on_moves g c.loop-used-test.true f.held.2).0 f.held.1 f.held.3 f.held.4 refl auto.copy refl auto.notes auto.buf

pub returns-after-loop-used : goal.returns-after-loop-used
returns-after-loop-used c = let r = on_done c.loop-used.invariant (λ l. absurd (omega arith)) in record { fed = r.0; held = r.1.0; far = r.1.1 }

pub returns-else-copy-at-ge-ROOM : goal.returns-else-copy-at-ge-ROOM
returns-else-copy-at-ge-ROOM c = let r = on_done c.loop-used.invariant (λ l. inl c.if-copy-at-ge-ROOM.false) in record { fed = r.0; held = r.1.0; far = r.1.1 }

pub returns-else-notes-said-ge-NOTE : goal.returns-else-notes-said-ge-NOTE
returns-else-notes-said-ge-NOTE c = let r = on_done c.loop-used.invariant (λ l. inr c.if-notes-said-ge-NOTE.false) in record { fed = r.0; held = r.1.0; far = r.1.1 }
