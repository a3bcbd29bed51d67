-- `put_five` meets its contract: one digit, at most three, or a pair behind them.
use Prim.Native.Nat.{◌/◌}
use native.Mathlib.Omega.{arith}
use Rattle.writing.proofs.Pairs.{digits_two, count_two}
use Rattle.writing.proofs.Sheets.{then, same_bytes}
use Rattle.text.proofs.Numbers.{count_one, count_most}
use Rattle.writing.proofs.decimal.put_five.Goals as goal

pub put_one-requires : goal.put_one-requires
put_one-requires c = let s = c in (c.if-n-lt10.true, omega (arith, count_one s.args.n c.if-n-lt10.true, s.requires.1))

pub put_three-k-requires : goal.put_three-k-requires
put_three-k-requires c = let s = c in let n = s.args.n in (omega (arith, s.requires.0), omega (arith, count_two n (omega (arith, c.if-n-lt1000.false)) (omega (arith, s.requires.0)), s.requires.1))

pub slice_bounds-put_pair-count : goal.slice_bounds-put_pair-count
slice_bounds-put_pair-count c = let s = c in let n = s.args.n in omega (arith, count_two n (omega (arith, c.if-n-lt1000.false)) (omega (arith, s.requires.0)), s.requires.1, c.put_three-k.ensures.count)

pub slice_bounds-put_pair-start : goal.slice_bounds-put_pair-start
slice_bounds-put_pair-start c = let s = c in let n = s.args.n in omega (arith, count_two n (omega (arith, c.if-n-lt1000.false)) (omega (arith, s.requires.0)), s.requires.1, c.put_three-k.ensures.count)

pub put_pair-requires : goal.put_pair-requires
put_pair-requires c = let s = c in let n = s.args.n in (omega arith, omega (arith, count_two n (omega (arith, c.if-n-lt1000.false)) (omega (arith, s.requires.0)), s.requires.1, c.put_three-k.ensures.count))

pub overflow_add-result : goal.overflow_add-result
overflow_add-result c = omega (arith, count_most (c.args.n / 100), c.put_three-k.ensures.count, c.put_pair.ensures.count)

pub returns : goal.returns
returns c = let s = c in same_bytes (digits_two s.args.n (omega (arith, c.if-n-lt1000.false)) (omega (arith, s.requires.0))) (then c.put_three-k.ensures c.put_pair.ensures)
