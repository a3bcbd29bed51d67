-- `share` meets its contract.
-- Assumes nothing.
use native.Mathlib.Omega.{arith}
use borrow.Author.Tests.{le-leb, lt-leb}
use Rattle.pots.proofs.settle.share.Goals as goal

pub returns-then-w-lt1 : goal.returns-then-w-lt1
returns-then-w-lt1 c = simp (lt-leb _ _ c.if-w-lt1.true)

pub returns-then-odd-lt1 : goal.returns-then-odd-lt1
returns-then-odd-lt1 c = simp (le-leb _ _ c.if-w-lt1.false) (omega arith)

pub returns-else-odd-lt1 : goal.returns-else-odd-lt1
returns-else-odd-lt1 c = simp (le-leb _ _ c.if-w-lt1.false) (omega arith)
