-- `number_in` meets its contract, by the count of the bytes and the first of them.
-- `number_in` meets its contract, by the count of the bytes and the first of them.
use mathlib.Core.Path.{sym, ◌∙◌}
use Rattle.text.proofs.Numbers.{number_none, number_long, number_zero, number_led, number_digits}
use native.Mathlib.Omega.{arith}
use Rattle.text.proofs.decimal.number_in.Goals as goal

pub returns-then-part-eq0 : goal.returns-then-part-eq0
returns-then-part-eq0 c = sym (number_none c.args.part.now c.if-part-eq0.true)

pub returns-then-part-gt9 : goal.returns-then-part-gt9
returns-then-part-gt9 c = sym (number_long c.args.part.now c.if-part-gt9.true)

pub returns-then-part-eq1 : goal.returns-then-part-eq1
returns-then-part-eq1 c =
    sym (number_zero c.args.part.now c.if-part-eq48.true c.if-part-eq1.true)

pub returns-then-part-eq48 : goal.returns-then-part-eq48
returns-then-part-eq48 c =
    sym (number_led c.args.part.now c.if-part-eq48.true c.if-part-eq1.false)

pub returns : goal.returns
returns c =
    let l = c.args.part.now in
    c.digits_value.ensures ∙ sym (number_digits l c.if-part-eq0.false (omega arith) c.if-part-eq48.false)
