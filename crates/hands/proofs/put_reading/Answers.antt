-- `hands::put_reading` meets its contract. Assumes nothing.
use native.Mathlib.Omega.{arith}
use Rattle.hands.proofs.Ended.{known_bytes_law, refused_bytes}
use Rattle.hands.proofs.put_reading.Goals as goal

pub returns-in-Ok : goal.returns-in-Ok
returns-in-Ok c =
    record { wrote = known_bytes_law _ _ _ c.in-Ok.is c.put_known.ensures.wrote; room = omega (arith, c.put_known.ensures.room) }

pub returns-in-Err : goal.returns-in-Err
returns-in-Err c =
    record { wrote = refused_bytes _ _ _ c.in-Err.is (rw c.number.ensures at c.put_number.ensures.wrote); room = omega (arith, c.put_number.ensures.room) }
