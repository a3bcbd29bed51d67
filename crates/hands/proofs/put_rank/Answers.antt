-- `hands::put_rank` meets its contract. Assumes nothing.
use Rattle.hands.proofs.Written.{next}
use Rattle.hands.specs.Answers.{rank_bytes}
use native.Mathlib.Omega.{arith}
use Rattle.hands.proofs.put_rank.Goals as goal

pub returns : goal.returns
unfolding rank_bytes
returns c = record { wrote = next c.put-next.ensures.wrote c.put_number.ensures.wrote; room = omega arith }
