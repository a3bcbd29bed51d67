-- `in_place` meets its contract: at each turn what was written and what is left, and the pots of the table, are said by `Going`; it ends where the part is
-- used up, at a block that is not whole, and at one whose answer has no room, where the table before it was kept.
use Rattle.stream.proofs.Going.{go_start, go_out, go-open, go-shows, go_asked, go-full, go-fits, go-room, go-turn}
use Rattle.stream.proofs.Runs.{run-less}
use Rattle.desk.proofs.Whole.{whole_part}
use Rattle.blocks.specs.declared.front.Front.{Front}
use borrow.Author.Tests.{not-true, not-false}
use native.Mathlib.Omega.{arith}
use mathlib.Core.Path.{refl, ap, ◌∙◌}
use mathlib.Core.Logic.{inl, inr}
use Rattle.stream.proofs.place.in_place.Goals.{then-room-lt-LONGEST_SHARED, else-room-lt-LONGEST_SHARED}
use Rattle.stream.proofs.place.in_place.Goals as goal

pub loop-left-init : goal.loop-left-init
loop-left-init c = go_start c.args.t c.args.part.now c.args.out.now c.requires c.first_stands-stands.ensures

pub ran_to-requires : goal.ran_to-requires
ran_to-requires c = c.loop-left.invariant.run.inside

pub shape_of-out-then-not-f : goal.shape_of-out-then-not-f
shape_of-out-then-not-f c = c.loop-left.invariant.run.same

pub returns-then-not-f : goal.returns-then-not-f
returns-then-not-f c = let r = go-open c.loop-left.invariant c.read_front-f.ensures (not-true _ c.if-not-f.true) c.ran_to.ensures in record { ran = r.0; bytes = r.1.0; sound = r.1.1 }

pub overflow_sub-room : goal.overflow_sub-room
overflow_sub-room c = let g = c.loop-left.invariant.run in omega (arith, g.within, g.same)

pub take-k-requires : goal.take-k-requires
take-k-requires c = c.loop-left.invariant.run.sound

pub stands_after-after-requires : goal.stands_after-after-requires
stands_after-after-requires c = (c.take-k.ensures.1, go-shows c.loop-left.invariant c.read_front-f.ensures c.loop-left-test.true c.plan-p.ensures c.take-k.ensures.0 c.or_else-code.ensures c.keeps_pots.ensures)

pub shown_with-shown-requires : goal.shown_with-shown-requires
shown_with-shown-requires c = go_asked c.loop-left.invariant c.read_front-f.ensures c.loop-left-test.true c.plan-p.ensures c.take-k.ensures.0 c.or_else-code.ensures c.take-k.ensures.1 c.stands_after-after.ensures

pub has_room-requires : goal.has_room-requires
has_room-requires c = c.shown_with-shown.ensures.1

pub ran_to-requires-then-not-has_room : goal.ran_to-requires-then-not-has_room
ran_to-requires-then-not-has_room c = c.loop-left.invariant.run.inside

pub shape_of-out-then-not-has_room : goal.shape_of-out-then-not-has_room
shape_of-out-then-not-has_room c = c.loop-left.invariant.run.same

pub returns-then-not-has_room : goal.returns-then-not-has_room
returns-then-not-has_room c = let r = go-full c.loop-left.invariant c.read_front-f.ensures c.loop-left-test.true c.plan-p.ensures c.take-k.ensures.0 c.or_else-code.ensures c.shown_with-shown.ensures.0 c.has_room.ensures c.if-not-has_room.true (elim c.if-room-lt-LONGEST_SHARED.branch [ then-room-lt-LONGEST_SHARED w ↦ inl w.old-is | else-room-lt-LONGEST_SHARED w ↦ inr w.if-room-lt-LONGEST_SHARED.false ]) c.ran_to-then-not-has_room.ensures in record { ran = r.0; bytes = r.1.0; sound = r.1.1 }

pub slice_bounds-put_answer-count : goal.slice_bounds-put_answer-count
slice_bounds-put_answer-count c = let g = c.loop-left.invariant.run in omega (arith, g.within, g.same)

pub slice_bounds-put_answer-start : goal.slice_bounds-put_answer-start
slice_bounds-put_answer-start c = let g = c.loop-left.invariant.run in omega (arith, g.within, g.same)

pub slice_bounds-put_answer-end : goal.slice_bounds-put_answer-end
slice_bounds-put_answer-end c = let g = c.loop-left.invariant.run in omega (arith, g.within, g.same)

pub put_answer-at-requires : goal.put_answer-at-requires
put_answer-at-requires c = (c.shown_with-shown.ensures.1, go-fits c.loop-left.invariant c.read_front-f.ensures c.loop-left-test.true c.plan-p.ensures c.take-k.ensures.0 c.or_else-code.ensures c.shown_with-shown.ensures.0 c.has_room.ensures c.if-not-has_room.false)

pub overflow_add-at : goal.overflow_add-at
overflow_add-at c = omega (arith, c.well_formed, go-room c.loop-left.invariant c.read_front-f.ensures c.loop-left-test.true c.plan-p.ensures c.take-k.ensures.0 c.or_else-code.ensures c.shown_with-shown.ensures.0 c.has_room.ensures c.if-not-has_room.false c.put_answer-at.ensures)

pub front_rest-next-requires : goal.front_rest-next-requires
front_rest-next-requires c = ap (λ (x : Front). x.used) c.read_front-f.ensures

pub loop-left-smaller : goal.loop-left-smaller
loop-left-smaller c = run-less c.loop-left.invariant.run c.read_front-f.ensures (whole_part c.front_rest-next.result.now ∙ c.front_rest-next.ensures) c.loop-left-test.true

pub loop-left-preserved : goal.loop-left-preserved
loop-left-preserved c = go-turn c.loop-left.invariant c.read_front-f.ensures c.loop-left-test.true c.plan-p.ensures c.take-k.ensures.0 c.or_else-code.ensures c.shown_with-shown.ensures.0 c.has_room.ensures c.if-not-has_room.false c.put_answer-at.ensures refl (not-false _ c.if-not-f.false) c.take-k.ensures.1 c.stands_after-after.ensures (whole_part c.front_rest-next.result.now ∙ c.front_rest-next.ensures)

pub ran_to-requires-2 : goal.ran_to-requires-2
ran_to-requires-2 c = c.loop-left.invariant.run.inside

pub shape_of-out : goal.shape_of-out
shape_of-out c = c.loop-left.invariant.run.same

pub returns : goal.returns
returns c = let r = go_out c.loop-left.invariant c.loop-left-test.false c.ran_to-2.ensures in record { ran = r.0; bytes = r.1.0; sound = r.1.1 }
