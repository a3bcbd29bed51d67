-- `with_digit` meets its contract, by a law for each return.
-- Assumes nothing.
use Rattle.try_pots.proofs.Scanned.{digit_one, digit_none, grows_is, grows_by}
use native.Mathlib.Omega.{arith}
use Rattle.try_pots.proofs.line.with_digit.Goals as goal

pub overflow_mul-result : goal.overflow_mul-result
overflow_mul-result c = let s = c.args.s in let b = c.args.b in omega (arith, grows_by s b (grows_is s b c.both.ensures c.both-2.ensures c.if-both.true))

pub overflow_sub-result : goal.overflow_sub-result
overflow_sub-result c = let s = c.args.s in let b = c.args.b in omega (arith, grows_by s b (grows_is s b c.both.ensures c.both-2.ensures c.if-both.true))

pub overflow_add-result : goal.overflow_add-result
overflow_add-result c = let s = c.args.s in let b = c.args.b in omega (arith, grows_by s b (grows_is s b c.both.ensures c.both-2.ensures c.if-both.true))

pub returns-then-both : goal.returns-then-both
returns-then-both c = let s = c.args.s in let b = c.args.b in digit_one s b (grows_is s b c.both.ensures c.both-2.ensures c.if-both.true)

pub returns : goal.returns
returns c = let s = c.args.s in let b = c.args.b in digit_none s b (grows_is s b c.both.ensures c.both-2.ensures c.if-both.false) c.spoilt.ensures
