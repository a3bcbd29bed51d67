-- `less` meets its contract.
-- Assumes nothing.
use native.Mathlib.Omega.{arith}
use Rattle.pots.proofs.Contest.{has_one, has_none}
use Rattle.pots.proofs.settle.less.Goals as goal

pub returns-then-w-lt1 : goal.returns-then-w-lt1
returns-then-w-lt1 c = omega (arith, has_none c.args.w 1 c.if-w-lt1.true)

pub returns-else-odd-lt1 : goal.returns-else-odd-lt1
returns-else-odd-lt1 c = omega (arith, has_one c.args.w 1 c.if-w-lt1.false)
