-- `renew_on` meets its contract: at each turn what was given so far is said by `Renewing`.
use mathlib.Core.Path.{◌≡◌, refl, sym, ap, ◌∙◌}
use mathlib.Core.Bool.{false}
use Prim.Native.Nat.{◌+◌, ◌-◌, ◌≤◌, ◌<◌}
use lib.ListN.{length, length-drop}
use native.Mathlib.Omega.{arith}
use Rattle.text.proofs.Parts.{part_is}
use Rattle.renewal.specs.Renewing.{given_most}
use Rattle.renewal.proofs.Steps.{true_false, most_is}
use Rattle.renewal.proofs.Parts.{renew_turn, renew_moves}
use Rattle.renewal.proofs.renew_on.Goals.{then-renewal-via-then-renewal, then-renewal-via-else-renewal+then-out-at-lt-MOST}
use Rattle.renewal.proofs.renew_on.Goals as goal

pub returns-then-renewal-clause-far : goal.returns-then-renewal-clause-far
returns-then-renewal-clause-far c d l m =
    let n : c.loop-i.renewal.done ≡ false → length c.loop-i.out - c.loop-i.at < given_most =
    λ e. elim c.then-renewal.branch [
      | then-renewal-via-then-renewal w ↦ absurd (true_false (sym w.if-renewal.true ∙ e))
      | then-renewal-via-else-renewal+then-out-at-lt-MOST w ↦ omega (arith, w.if-out-at-lt-MOST.true, most_is)
    ] in
    renew_moves c.loop-i.invariant n d m

pub step-d-requires : goal.step-d-requires
step-d-requires c =
    let g = c.loop-i in
    (g.invariant.held, omega (arith, most_is, c.if-out-at-lt-MOST.false, ap length (part_is g.at g.out), length-drop g.at g.out))

pub loop-i-preserved : goal.loop-i-preserved
loop-i-preserved c =
    let e = c.step-d.ensures in
    let room : c.loop-i.at + given_most ≤ length c.loop-i.out = omega (arith, most_is, c.if-out-at-lt-MOST.false, c.loop-i.invariant.within, c.loop-i.invariant.same) in
    renew_turn c.loop-i.invariant c.loop-i-test.true room e.gave e.held.0 e.held.1 refl c.step-d.auto.out
