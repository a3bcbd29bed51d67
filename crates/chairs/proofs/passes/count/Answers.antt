-- `count` meets its contract: what is counted so far and what the rest counts make the whole count. Assumes nothing.
use mathlib.Core.Path.{refl, ap}
use native.Mathlib.Omega.{arith}
use lib.ListN.{get_or, drop_of_length-le}
use Rattle.laws.specs.Tests.{one}
use Rattle.chairs.specs.Chairs.{count_of}
use Rattle.chairs.proofs.Laws.{unread, count_step}
use Rattle.chairs.proofs.passes.count.Goals.{then-asked, else-asked}
use Rattle.chairs.proofs.passes.count.Goals as goal

pub loop-c-init : goal.loop-c-init
loop-c-init g c = (omega arith, λ p h. omega arith)

pub overflow_add-n : goal.overflow_add-n
overflow_add-n g c = omega (arith, c.loop-c.invariant.0)

pub loop-c-preserved : goal.loop-c-preserved
loop-c-preserved g c =
    let i = c.loop-c.c-index in
    let cs = c.args.cs.now in
    let inv = c.loop-c.invariant in
    let b = c.asked.result in
    elim c.if-asked.branch [
      | then-asked w ↦ (
        omega (arith, w.n-is, inv.0),
        λ p h.
            let said = h (get_or cs i unread) b (record { shown = _; shows = refl; says = record { met = c.asked.ensures } }) in
            omega (arith, w.n-is, count_step p cs i unread c.loop-c-test.true, ap one said, ap one w.if-asked.true, inv.1 p h),
      )
      | else-asked w ↦ (
        omega (arith, w.n-is, inv.0),
        λ p h.
            let said = h (get_or cs i unread) b (record { shown = _; shows = refl; says = record { met = c.asked.ensures } }) in
            omega (arith, w.n-is, count_step p cs i unread c.loop-c-test.true, ap one said, ap one w.if-asked.false, inv.1 p h),
      )
    ]

pub returns : goal.returns
returns g c p h =
    let i = c.loop-c.c-index in
    let cs = c.args.cs.now in
    omega (arith, ap (count_of p) (drop_of_length-le cs {i = i} c.loop-c-test.false), c.loop-c.invariant.1 p h)
