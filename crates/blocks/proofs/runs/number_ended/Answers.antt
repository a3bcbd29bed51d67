-- `number_ended` meets its contract: a run of digits, an LF behind it, and no leading zero.
use Rattle.text.proofs.Numbers.{run_one, run_more}
use native.Mathlib.Omega.{arith}
use Rattle.blocks.proofs.runs.number_ended.Goals as goal

pub returns-then-e-le1 : goal.returns-then-e-le1
returns-then-e-le1 c =
    let l = c.args.part.now in
    let d = c.digit_run-d.ensures in
    (d.0, λ o. (run_one l c.digit_run-d.result.count d.0 (omega (arith, d.0, c.requires)) d.1 d.2 o c.if-e-le1.true, c.if-part-e-eq10.true))

pub returns-then-part-ne48 : goal.returns-then-part-ne48
returns-then-part-ne48 c =
    let l = c.args.part.now in
    let d = c.digit_run-d.ensures in
    (d.0, λ o. (run_more l c.digit_run-d.result.count d.0 (omega (arith, d.0, c.requires)) d.1 d.2 o c.if-part-ne48.true, c.if-part-e-eq10.true))

pub returns-else-part-ne48 : goal.returns-else-part-ne48
returns-else-part-ne48 c = (omega arith, λ o. absurd (omega arith))

pub returns-else-part-e-eq10 : goal.returns-else-part-e-eq10
returns-else-part-e-eq10 c = (omega arith, λ o. absurd (omega arith))
