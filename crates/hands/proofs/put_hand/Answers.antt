-- `hands::put_hand` meets its contract. Assumes nothing.
use Rattle.hands.proofs.Written.{next}
use Rattle.hands.specs.Answers.{hand_bytes}
use native.Mathlib.Omega.{arith}
use Rattle.hands.proofs.put_hand.Goals as goal

pub returns : goal.returns
unfolding hand_bytes
returns c = record { wrote = next (next (next (next (next (rw c.from_lowest.ensures at c.put_number-a.ensures.wrote) c.put_rank-b.ensures.wrote) c.put_rank-c.ensures.wrote) c.put_rank-d.ensures.wrote) c.put_rank-e.ensures.wrote) c.put_rank.ensures.wrote; room = omega (arith, c.put_number-a.ensures.room, c.put_rank-b.ensures.room, c.put_rank-c.ensures.room, c.put_rank-d.ensures.room, c.put_rank-e.ensures.room, c.put_rank.ensures.room) }
