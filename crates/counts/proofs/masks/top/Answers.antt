-- The highest bit is the highest rank.
use mathlib.Core.Path.{refl}
use native.Mathlib.Omega.{arith}
use Rattle.counts.proofs.Masked.{top_none, leading_small, top_found}
use Rattle.counts.proofs.masks.top.Goals as goal

pub returns-then-m-eq0 : goal.returns-then-m-eq0
returns-then-m-eq0 c = record { is = top_none c.args.m c.if-m-eq0.true; small = omega arith }

pub overflow_sub-result : goal.overflow_sub-result
overflow_sub-result c = leading_small c.args.m c.if-m-eq0.false c.requires

pub returns : goal.returns
returns c = let r = top_found c.args.m _ c.if-m-eq0.false c.requires refl in record { is = r.0; small = r.1 }
