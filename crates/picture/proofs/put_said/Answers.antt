-- `put_said` meets its contract, by what the line said.
use Rattle.picture.specs.Screen.{shown_of}
use borrow.Author.Tests.{lt-ltb, le-ltb}
use native.Mathlib.Omega.{arith}
use Rattle.picture.proofs.put_said.Goals as goal

pub returns-then-l-lt-KINDS : goal.returns-then-l-lt-KINDS
unfolding shown_of
returns-then-l-lt-KINDS c = (rw (lt-ltb _ _ c.if-l-lt-KINDS.true) c.put_answer.ensures.0, c.put_answer.ensures.1)

pub returns : goal.returns
unfolding shown_of
returns c = (rw (le-ltb _ _ c.if-l-lt-KINDS.false) c.put_foreign.ensures.0, omega (arith, c.put_foreign.ensures.1))
