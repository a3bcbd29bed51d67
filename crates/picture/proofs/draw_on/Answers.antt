-- `draw_on` meets its contract: at each turn what was drawn so far is said by `Drawing`.
use mathlib.Core.Path.{◌≡◌}
use lib.ListN.{length}
use native.Mathlib.Omega.{arith}
use Rattle.picture.proofs.Parts.{draw_start, draw_turn, draw_done}
use Rattle.picture.proofs.draw_on.Goals as goal

pub loop-i-init : goal.loop-i-init
loop-i-init c = draw_start c.args.colour c.args.s c.args.buf.now c.args.part.now c.args.out.now c.requires.0

pub overflow_sub-out : goal.overflow_sub-out
overflow_sub-out c = let g = c.loop-i.invariant in omega (arith, g.within, g.same)

pub returns-then-out-at-lt-MOST : goal.returns-then-out-at-lt-MOST
returns-then-out-at-lt-MOST c =
    let r = draw_done c.loop-i.invariant (λ l. c.if-out-at-lt-MOST.true) in
    record { drawn = r.0; held = r.1.0; far = r.1.1 }

pub step-d-requires : goal.step-d-requires
step-d-requires c = let g = c.loop-i.invariant in (g.held, omega (arith, c.requires.1, g.size), omega (arith, c.if-out-at-lt-MOST.false, g.within, g.same))

pub loop-i-preserved : goal.loop-i-preserved
loop-i-preserved c = let e = c.step-d.ensures in draw_turn c.loop-i.invariant c.loop-i-test.true e.drawn e.state e.held.0 c.step-d.auto.buf c.step-d.auto.out

pub returns : goal.returns
returns c =
    let e : c.loop-i.i ≡ length c.args.part.now = omega arith in
    let r = rw e at (draw_done c.loop-i.invariant (λ l. absurd (omega arith))) in
    record { drawn = r.0; held = r.1.0; far = r.1.1 }
