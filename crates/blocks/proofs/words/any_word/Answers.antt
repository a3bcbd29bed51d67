-- `any_word` meets its contract.
use Rattle.blocks.proofs.Fronts.{word_part, place_most, place_lent}
use lib.ListN.{take, drop}
use Prim.Native.Nat.{◌-◌}
use native.Mathlib.Omega.{arith}
use Rattle.blocks.proofs.words.any_word.Goals as goal

pub kind_place-requires : goal.kind_place-requires
kind_place-requires c =
    let w = c.letter_run-e.ensures in
    word_part c.args.part.now c.letter_run-e.result w.1 w.0 w.2

pub overflow_cast-result : goal.overflow_cast-result
overflow_cast-result c = omega (arith, place_most (take (c.letter_run-e.result - 0) (drop 0 c.args.part.now)) c.kind_place.ensures)

pub returns-then-part-e-eq10 : goal.returns-then-part-e-eq10
returns-then-part-e-eq10 c =
    let w = c.letter_run-e.ensures in
    (w.0, λ o. (w.2, c.if-part-e-eq10.true, place_lent c.args.part.now c.letter_run-e.result c.kind_place.ensures))

pub returns : goal.returns
returns c = (omega arith, λ o. absurd (omega arith))
