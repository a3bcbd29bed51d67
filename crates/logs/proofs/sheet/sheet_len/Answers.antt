-- `sheet_len` meets its contract: what is counted and the lines still to come make up the sheet.
use native.Mathlib.Omega.{arith}
use Rattle.logs.proofs.Puts.{values_count, count_on, count_done}
use Rattle.logs.proofs.sheet.sheet_len.Goals as goal

pub loop-k-init : goal.loop-k-init
loop-k-init c = (omega arith, omega arith)

pub line_len-at-requires : goal.line_len-at-requires
line_len-at-requires c = omega arith

pub overflow_add-at : goal.overflow_add-at
overflow_add-at c = omega (arith, c.line_len-at.ensures.1)

pub loop-k-preserved : goal.loop-k-preserved
loop-k-preserved c = (omega (arith, c.line_len-at.ensures.1), count_on _ c.loop-k.k c.loop-k.at (values_count c.args.s c.values_of-values.ensures) (omega arith) c.loop-k.invariant.1 c.line_len-at.ensures.0)

pub returns : goal.returns
returns c = count_done c.args.s _ c.loop-k.k c.loop-k.at c.values_of-values.ensures (omega arith) c.loop-k.invariant.1
