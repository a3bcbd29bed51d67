-- `in_mask` meets its contract.
use Prim.Native.Nat.{◌-◌, ◌+◌, ◌/◌}
use mathlib.Core.Path.{◌≡◌, sym, ap, ◌∙◌}
use native.Mathlib.Omega.{arith}
use Rattle.columns.specs.Columns.{in_mask}
use Rattle.columns.proofs.Turns.{mask_turn, mask_done}
use Rattle.columns.proofs.in_mask.Goals as goal

pub loop-i-init : goal.loop-i-init
loop-i-init c =
    let e : c.args.place - 0 ≡ c.args.place = omega arith in
    (ap (λ k. in_mask c.args.mask k) e)

pub loop-i-preserved : goal.loop-i-preserved
loop-i-preserved c = let l = c.loop-i in let p = c.args.place in let e : p - l._i - 1 ≡ p - (l._i + 1) = omega arith in (ap (λ k. in_mask (l.rest / 2) k) (sym e) ∙ sym (mask_turn l.rest (p - l._i) (omega arith)) ∙ l.invariant)

pub returns : goal.returns
returns c = let l = c.loop-i in let p = c.args.place in sym (mask_done l.rest (p - l._i) (omega arith)) ∙ l.invariant
