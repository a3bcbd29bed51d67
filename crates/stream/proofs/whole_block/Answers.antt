-- `whole_block` meets its contract: no bytes, a whole block, and one that is not whole.
use Rattle.stream.proofs.One.{empty_lines, open_alone, front_part, rest_within, one_gave, none_gave}
use native.Mathlib.Omega.{arith}
use mathlib.Core.Path.{sym, ◌∙◌}
use Rattle.stream.proofs.whole_block.Goals as goal

pub returns-then-block-eq0 : goal.returns-then-block-eq0
returns-then-block-eq0 c = let r = none_gave c.args.t c.args.block.now c.args.out.now c.if-block-eq0.true c.requires c.clerk_after.ensures in record { gave = r.0; held = r.1 }

pub overflow_sub-e : goal.overflow_sub-e
overflow_sub-e c = omega (arith, rest_within c.args.block.now c.rest-left.ensures)

pub slice_bounds-in_place-count : goal.slice_bounds-in_place-count
slice_bounds-in_place-count c = omega (arith, rest_within c.args.block.now c.rest-left.ensures)

pub slice_bounds-in_place-start : goal.slice_bounds-in_place-start
slice_bounds-in_place-start c = omega (arith, rest_within c.args.block.now c.rest-left.ensures)

pub slice_bounds-in_place-end : goal.slice_bounds-in_place-end
slice_bounds-in_place-end c = omega (arith, rest_within c.args.block.now c.rest-left.ensures)

pub returns-then-ended : goal.returns-then-ended
returns-then-ended c = let r = one_gave c.args.t c.args.block.now _ c.args.out.now (front_part c.args.block.now c.rest-left.ensures (sym c.ended.ensures ∙ c.if-ended.true)) c.in_place.ensures.ran c.in_place.ensures.bytes c.in_place.ensures.sound.0 c.told.ensures in record { gave = r.0; held = r.1 }

pub returns : goal.returns
returns c = let r = one_gave c.args.t c.args.block.now empty_lines c.args.out.now (open_alone c.args.block.now c.if-block-eq0.false (sym c.ended.ensures ∙ c.if-ended.false)) c.in_place-2.ensures.ran c.in_place-2.ensures.bytes c.in_place-2.ensures.sound.0 c.told-2.ensures in record { gave = r.0; held = r.1 }
