-- `put_three` meets its contract: one digit, a pair, or a pair behind one digit.
use Prim.Native.Nat.{◌/◌}
use native.Mathlib.Omega.{arith}
use Rattle.writing.proofs.Pairs.{digits_pair, digits_two, count_pair, count_two}
use Rattle.writing.proofs.Sheets.{then, same_bytes}
use Rattle.text.proofs.Numbers.{count_one}
use Rattle.writing.proofs.decimal.put_three.Goals as goal

pub put_one-requires : goal.put_one-requires
put_one-requires c = let s = c in (c.if-n-lt10.true, omega (arith, count_one s.args.n c.if-n-lt10.true, s.requires.1))

pub put_pair-requires : goal.put_pair-requires
put_pair-requires c = let s = c in (c.if-n-lt100.true, omega (arith, count_pair s.args.n c.if-n-lt10.false c.if-n-lt100.true, s.requires.1))

pub returns-then-n-lt100 : goal.returns-then-n-lt100
returns-then-n-lt100 c = same_bytes (digits_pair c.args.n c.if-n-lt10.false c.if-n-lt100.true) c.put_pair.ensures

pub put_one-k-requires : goal.put_one-k-requires
put_one-k-requires c = let s = c in let n = s.args.n in (omega (arith, s.requires.0), omega (arith, count_two n c.if-n-lt100.false (omega (arith, s.requires.0)), s.requires.1))

pub slice_bounds-put_pair-count : goal.slice_bounds-put_pair-count
slice_bounds-put_pair-count c = let s = c in let n = s.args.n in omega (arith, count_two n c.if-n-lt100.false (omega (arith, s.requires.0)), s.requires.1, c.put_one-k.ensures.count)

pub slice_bounds-put_pair-start : goal.slice_bounds-put_pair-start
slice_bounds-put_pair-start c = let s = c in let n = s.args.n in omega (arith, count_two n c.if-n-lt100.false (omega (arith, s.requires.0)), s.requires.1, c.put_one-k.ensures.count)

pub put_pair-requires-2 : goal.put_pair-requires-2
put_pair-requires-2 c = let s = c in let n = s.args.n in (omega arith, omega (arith, count_two n c.if-n-lt100.false (omega (arith, s.requires.0)), s.requires.1, c.put_one-k.ensures.count))

pub overflow_add-result : goal.overflow_add-result
overflow_add-result c = let s = c in omega (arith, count_one (s.args.n / 100) (omega (arith, s.requires.0)), c.put_one-k.ensures.count, c.put_pair-2.ensures.count)

pub returns : goal.returns
returns c = let s = c in same_bytes (digits_two s.args.n c.if-n-lt100.false (omega (arith, s.requires.0))) (then c.put_one-k.ensures c.put_pair-2.ensures)
