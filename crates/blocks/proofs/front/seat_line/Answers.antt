-- `seat_line` meets its contract.
use Rattle.blocks.proofs.Fronts.{key_then, number_read}
use lib.ListN.{drop, length-drop}
use Prim.Native.Nat.{ℕ}
use mathlib.Core.List.{List, [], ◌∷◌}
use mathlib.Core.Path.{refl}
use native.Mathlib.Omega.{arith}
use Rattle.blocks.proofs.front.seat_line.Goals as goal

pub returns-then-log-eq61 : goal.returns-then-log-eq61
returns-then-log-eq61 c =
    let l = c.args.log.now in
    let key : List ℕ = 115 ∷ 101 ∷ 97 ∷ 116 ∷ [] in
    let k = key_then key l (λ x. refl) refl (omega (arith, c.requires)) c.four.ensures c.if-four-eq1952540019.true c.if-log-eq61.true in
    number_read key l (drop 5 l) c.number_behind.result refl (omega arith) k refl (omega (arith, length-drop 5 l, c.requires)) c.number_behind.ensures c.line_from.ensures
