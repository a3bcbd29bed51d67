-- `hands::put_place` meets its contract. Assumes nothing.
use native.Mathlib.Omega.{arith}
use Rattle.hands.proofs.Written.{next}
use mathlib.Core.Path.{sym, subst}
use Prim.Native.Nat.{ℕ, ◌<◌}
use Rattle.hands.specs.Answers.{place_bytes}
use Rattle.hands.proofs.Ended.{place_small}
use Rattle.hands.proofs.put_place.Goals as goal

pub put_four-requires : goal.put_four-requires
put_four-requires c = (omega (arith, c.put_key-next.ensures.room), subst (λ (n : ℕ). n < 10000) (sym c.place.ensures) (place_small c.args.h))

pub returns : goal.returns
unfolding place_bytes
returns c = record { wrote = next c.put_key-next.ensures.wrote (rw c.place.ensures at c.put_four.ensures.wrote); room = omega (arith, c.put_key-next.ensures.room, c.put_four.ensures.room) }
