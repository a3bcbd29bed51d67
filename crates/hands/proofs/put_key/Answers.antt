-- `hands::put_key` meets its contract. Assumes nothing.
use native.Mathlib.Omega.{arith}
use Rattle.hands.proofs.Written.{next}
use Rattle.hands.proofs.put_key.Goals as goal

pub returns : goal.returns
returns c = record { wrote = next (next (next (next (next c.put-a.ensures.wrote c.put-b.ensures.wrote) c.put-c.ensures.wrote) c.put-d.ensures.wrote) c.put-e.ensures.wrote) c.put.ensures.wrote; room = omega (arith, c.put-a.ensures.room, c.put-b.ensures.room, c.put-c.ensures.room, c.put-d.ensures.room, c.put-e.ensures.room, c.put.ensures.room) }
