-- `hands::grown` meets its contract. Assumes nothing.
use Rattle.hands.specs.Lines.{grown_of}
use borrow.Author.Tests.{le-leb, lt-leb}
use native.Mathlib.Omega.{arith}
use Rattle.hands.proofs.grown.Goals as goal

pub returns-then-b-lt48 : goal.returns-then-b-lt48
unfolding grown_of
returns-then-b-lt48 c = rw (lt-leb _ _ c.if-b-lt48.true)

pub returns-then-b-gt57 : goal.returns-then-b-gt57
unfolding grown_of
returns-then-b-gt57 c = rw (le-leb _ _ c.if-b-lt48.false, lt-leb _ _ c.if-b-gt57.true)

pub returns-then-n-lt255 : goal.returns-then-n-lt255
unfolding grown_of
returns-then-n-lt255 c = rw (le-leb _ _ c.if-b-lt48.false, le-leb _ _ c.if-b-gt57.false) (omega arith)

pub returns-else-n-lt255 : goal.returns-else-n-lt255
unfolding grown_of
returns-else-n-lt255 c = rw (le-leb _ _ c.if-b-lt48.false, le-leb _ _ c.if-b-gt57.false) (omega arith)
