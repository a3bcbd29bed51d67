-- `hands::put_four` meets its contract. Assumes nothing.
use native.Mathlib.Omega.{arith}
use Rattle.hands.proofs.Written.{next}
use borrow.Author.Tests.{lt-ltb, le-ltb}
use Rattle.hands.specs.Answers.{four_bytes}
use Rattle.hands.proofs.put_four.Goals as goal

pub returns-then-n-lt100 : goal.returns-then-n-lt100
unfolding four_bytes
returns-then-n-lt100 c = record { wrote = rw (lt-ltb _ _ c.if-n-lt100.true) c.put_number.ensures.wrote; room = omega (arith, c.put_number.ensures.room) }

pub returns : goal.returns
unfolding four_bytes
returns c = record { wrote = rw (le-ltb _ _ c.if-n-lt100.false) (next (next c.put_number-a.ensures.wrote c.put-b.ensures.wrote) c.put.ensures.wrote); room = omega (arith, c.put_number-a.ensures.room, c.put-b.ensures.room, c.put.ensures.room) }
