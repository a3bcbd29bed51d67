-- `digit_run` meets its contract: the bytes passed are digits, and their value is v.
use Rattle.text.proofs.Numbers.{value_on, step_below, room}
use Rattle.text.proofs.Bytes.{run_on}
use lib.ListN.{get_or}
use native.Mathlib.Omega.{arith}
use native.Mathlib.Numerals.{add-one}
use Prim.Native.Nat.{ℕ, ◌+◌, ◌-◌, ◌*◌}
use mathlib.Core.Path.{◌≡◌, sym, ap, ◌∙◌}
use Rattle.blocks.proofs.runs.digit_run.Goals as goal

pub overflow_mul-v : goal.overflow_mul-v
overflow_mul-v c = omega (arith, room c.loop-i.v 0 c.loop-i.i c.loop-i.invariant.0 (omega arith) (omega arith))

pub overflow_add-v : goal.overflow_add-v
overflow_add-v c = omega (arith, room c.loop-i.v c.digit-d.result c.loop-i.i c.loop-i.invariant.0 (omega arith) (omega arith))

pub loop-i-preserved : goal.loop-i-preserved
loop-i-preserved c =
    let l = c.args.part.now in
    let i = c.loop-i.i in
    let d = c.digit-d.ensures (omega arith) in (
      rw (add-one i) (step_below c.loop-i.v c.digit-d.result i c.loop-i.invariant.0 (omega arith)),
      run_on 48 57 l i (omega (arith, c.requires)) d.0 d.1 c.loop-i.invariant.1,
      rw d.2 (ap (λ (x : ℕ). x * 10 + (get_or l i 0 - 48)) c.loop-i.invariant.2 ∙ sym (value_on l i (omega (arith, c.requires)))),
    )

pub returns : goal.returns
returns c =
    let e : c.loop-i.i ≡ 9 = omega arith in
    (omega arith, (rw e at c.loop-i.invariant.1), (rw e at c.loop-i.invariant.2))
