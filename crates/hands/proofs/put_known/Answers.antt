-- `hands::put_known` meets its contract. Assumes nothing.
use native.Mathlib.Omega.{arith}
use Rattle.hands.proofs.Ended.{known_place, known_hand}
use Rattle.hands.proofs.put_known.Goals as goal

pub returns-then-place : goal.returns-then-place
returns-then-place c = record { wrote = known_place _ _ c.if-place.true c.put_place.ensures.wrote; room = omega (arith, c.put_place.ensures.room) }

pub returns : goal.returns
returns c = record { wrote = known_hand _ _ c.if-place.false c.put_hand.ensures.wrote; room = c.put_hand.ensures.room }
