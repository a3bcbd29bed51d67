-- `blocks` meets its contract.
use Rattle.desk.proofs.Whole.{going_room, whole_part, going_start, going_turn, going_done}
use mathlib.Core.Path.{refl, ap, ◌∙◌}
use lib.ListN.{length}
use Rattle.blocks.proofs.Blocks.{rest_shorter}
use borrow.Author.Rules.{rules}
use native.Mathlib.Omega.{arith}
use Rattle.desk.proofs.log.blocks.Goals as goal

pub loop-left-init : goal.loop-left-init
loop-left-init c =
    going_start c.args.t c.args.log.now c.args.out.now c.requires

pub slice_bounds-answer-count : goal.slice_bounds-answer-count
slice_bounds-answer-count c =
    omega (arith, c.loop-left.invariant.within, c.loop-left.invariant.same)

pub slice_bounds-answer-start : goal.slice_bounds-answer-start
slice_bounds-answer-start c =
    omega (arith, c.loop-left.invariant.within, c.loop-left.invariant.same)

pub slice_bounds-answer-end : goal.slice_bounds-answer-end
slice_bounds-answer-end c =
    omega (arith, c.loop-left.invariant.within, c.loop-left.invariant.same)

pub answer-a-requires : goal.answer-a-requires
answer-a-requires c =
    c.loop-left.invariant.sound

pub overflow_add-at : goal.overflow_add-at
overflow_add-at c =
    omega (arith, c.well_formed, going_room c.loop-left.invariant c.answer-a.ensures.answer, c.loop-left.invariant.same)

pub rest-next-requires : goal.rest-next-requires
rest-next-requires c =
    search rules

pub slice_bounds-left-count : goal.slice_bounds-left-count
slice_bounds-left-count c =
    search rules

pub slice_bounds-left-start : goal.slice_bounds-left-start
slice_bounds-left-start c =
    search rules

pub slice_bounds-left-end : goal.slice_bounds-left-end
slice_bounds-left-end c =
    search rules

pub loop-left-smaller : goal.loop-left-smaller
loop-left-smaller c =
    let e = whole_part c.rest-next.result.now ∙ c.rest-next.ensures in
    omega (arith, ap length e, rest_shorter c.loop-left.left.now (omega arith))

pub loop-left-preserved : goal.loop-left-preserved
loop-left-preserved c =
    going_turn c.loop-left.invariant (omega arith) c.answer-a.ensures.answer c.answer-a.ensures.bytes c.answer-a.ensures.sound (whole_part _ ∙ c.rest-next.ensures) refl (search rules)

pub shape_of-out : goal.shape_of-out
shape_of-out c =
    c.loop-left.invariant.same

pub returns : goal.returns
returns c =
    going_done c.loop-left.invariant (omega arith)
