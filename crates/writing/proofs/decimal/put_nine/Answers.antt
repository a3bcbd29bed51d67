-- `put_nine` meets its contract: the zeros in front, then the digits.
-- Assumes nothing.
use native.Mathlib.Omega.{arith}
use Rattle.text.proofs.Numbers.{count_most}
use Rattle.writing.specs.Nine.{nine_digits}
use Rattle.writing.proofs.Sheets.{then}
use Rattle.writing.proofs.Nine.{zeros_wrote}
use Rattle.writing.proofs.decimal.put_nine.Goals as goal

pub overflow_sub-k : goal.overflow_sub-k
overflow_sub-k c = omega (arith, count_most c.args.n, c.digit_count-k.ensures)

pub put_digits-requires : goal.put_digits-requires
put_digits-requires c =
    let s = c in
    (s.requires.0, omega (arith, count_most s.args.n, c.digit_count-k.ensures, c.put_bytes-a.ensures.count, s.requires.1))

pub returns : goal.returns
unfolding nine_digits
returns c =
    let k = c.digit_count-k in
    then (zeros_wrote {k = k.result} k.ensures c.put_bytes-a.ensures) c.put_digits.ensures
