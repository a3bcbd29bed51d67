-- `sweep` meets its contract: the first chairs are swept. Assumes nothing.
use mathlib.Core.Path.{◌≡◌, refl, ap, ◌∙◌}
use mathlib.Core.List.{List}
use native.Mathlib.Omega.{arith}
use native.Mathlib.Numerals.{add-one}
use lib.ListN.{length, set, get_or}
use Rattle.chairs.specs.declared.Chair.{Chair}
use Rattle.chairs.proofs.Laws.{unread, sweep_to, sweep_step, sweep_all}
use Rattle.chairs.proofs.passes.sweep.Goals as goal

pub loop-c-init : goal.loop-c-init
loop-c-init g c f h = refl

pub loop-c-preserved : goal.loop-c-preserved
loop-c-preserved g c f h =
    let i = c.loop-c.c-index in
    let ds = c.loop-c.cs in
    rw add-one (
    ap (λ (d : Chair). set ds i d) (h (get_or ds i unread) c.becomes.result c.becomes.ensures)
    ∙ ap (λ (l : List Chair). set l i (f (get_or l i unread))) (c.loop-c.invariant f h)
    ∙ sweep_step f i c.args.cs.now unread (omega arith))

pub returns : goal.returns
returns g c f h =
    let cs = c.args.cs.now in
    let e : c.loop-c.c-index ≡ length cs = omega arith in
    c.loop-c.invariant f h ∙ ap (λ k. sweep_to f k cs) e ∙ sweep_all f cs
