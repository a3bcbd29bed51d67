-- `cards::weighing::number_of` meets its contract. Assumes nothing.
use native.Mathlib.Omega.{arith}
use Rattle.cards.proofs.Packed.{number_hand}
use Rattle.cards.proofs.weighing.number_of.Goals as goal

pub returns : goal.returns
returns c =
    let s = c in
    number_hand s.args.ranking _ _ s.args.h s.requires c.place.ensures (omega arith) (omega arith) (omega arith) (omega arith) (omega arith) (omega arith) (omega arith)
