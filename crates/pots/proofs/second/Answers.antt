-- `second` meets its contract. The invariant: m and s are the largest and the second largest of the places walked.
-- Assumes nothing.
use Rattle.std.proofs.Common.{[], ◌∷◌, refl, ap, ◌∙◌, min, max, rules}
use mathlib.Core.List.{append-nil}
use mathlib.Core.Path.{ap₂}
use Rattle.laws.specs.Lists.{max_of}
use Rattle.pots.specs.Levels.{second_of}
use Rattle.pots.proofs.Backward.{back_turn, back_done}
use Rattle.pots.proofs.second.Goals as goal

pub loop-x-init : goal.loop-x-init
unfolding max_of second_of
loop-x-init c = ([], append-nil _ ∙ search rules, refl, refl)

pub loop-x-preserved : goal.loop-x-preserved
unfolding max_of second_of
loop-x-preserved c =
    let v = c.loop-x.invariant in
    let x = c.in-Some.x.now in (
      x ∷ v.0,
      back_turn c.loop-x.x-iterator.iter.rest.now c.next.new.self.iter.rest.now v.0 c.in-Some.x.now c.in-Some.ensures.steps v.1,
      c.max-m.ensures ∙ ap (max x) v.2,
      c.max-s.ensures ∙ ap₂ max v.3 (c.min.ensures ∙ ap (min x) v.2),
    )

pub returns : goal.returns
returns c =
    let v = c.loop-x.invariant in
    v.3 ∙ ap second_of (back_done c.loop-x.x-iterator.iter.rest.now c.in-None.ensures.steps.0 v.1)
