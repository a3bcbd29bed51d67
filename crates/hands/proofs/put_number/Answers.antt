-- `hands::put_number` meets its contract. Assumes nothing.
use Rattle.hands.proofs.Written.{next}
use Rattle.hands.specs.Answers.{number_bytes}
use borrow.Author.Tests.{lt-ltb, le-ltb}
use native.Mathlib.Omega.{arith}
use Rattle.hands.proofs.put_number.Goals as goal

pub returns-then-n-lt10 : goal.returns-then-n-lt10
unfolding number_bytes
returns-then-n-lt10 c = record { wrote = rw (lt-ltb _ _ c.if-n-lt10.true) c.put.ensures.wrote; room = omega arith }

pub returns : goal.returns
unfolding number_bytes
returns c = record { wrote = rw (le-ltb _ _ c.if-n-lt10.false) (next c.put-next.ensures.wrote c.put-2.ensures.wrote); room = omega arith }
