-- `put_digits` meets its contract: at most three digits, four, or four behind at most five.
use Prim.Native.Nat.{◌/◌}
use native.Mathlib.Omega.{arith}
use Rattle.writing.proofs.Pairs.{digits_four, digits_long, count_four, count_long}
use Rattle.writing.proofs.Sheets.{then, same_bytes}
use Rattle.text.proofs.Numbers.{count_most}
use Rattle.writing.proofs.decimal.put_digits.Goals as goal

pub put_four-requires : goal.put_four-requires
put_four-requires c = let s = c in (c.if-n-lt10000.true, omega (arith, count_four s.args.n c.if-n-lt1000.false c.if-n-lt10000.true, s.requires.1))

pub returns-then-n-lt10000 : goal.returns-then-n-lt10000
returns-then-n-lt10000 c = same_bytes (digits_four c.args.n c.if-n-lt1000.false c.if-n-lt10000.true) c.put_four.ensures

pub put_five-k-requires : goal.put_five-k-requires
put_five-k-requires c = let s = c in let n = s.args.n in (omega (arith, s.requires.0), omega (arith, count_long n c.if-n-lt10000.false s.requires.0, s.requires.1))

pub slice_bounds-put_four-count : goal.slice_bounds-put_four-count
slice_bounds-put_four-count c = let s = c in let n = s.args.n in omega (arith, count_long n c.if-n-lt10000.false s.requires.0, s.requires.1, c.put_five-k.ensures.count)

pub slice_bounds-put_four-start : goal.slice_bounds-put_four-start
slice_bounds-put_four-start c = let s = c in let n = s.args.n in omega (arith, count_long n c.if-n-lt10000.false s.requires.0, s.requires.1, c.put_five-k.ensures.count)

pub put_four-requires-2 : goal.put_four-requires-2
put_four-requires-2 c = let s = c in let n = s.args.n in (omega arith, omega (arith, count_long n c.if-n-lt10000.false s.requires.0, s.requires.1, c.put_five-k.ensures.count))

pub overflow_add-result : goal.overflow_add-result
overflow_add-result c = omega (arith, count_most (c.args.n / 10000), c.put_five-k.ensures.count, c.put_four-2.ensures.count)

pub returns : goal.returns
returns c = let s = c in same_bytes (digits_long s.args.n c.if-n-lt10000.false s.requires.0) (then c.put_five-k.ensures c.put_four-2.ensures)
