-- `a_line` meets its contract.
use Rattle.blocks.proofs.Fronts.{key_first, number_read}
use lib.ListN.{drop, length-drop}
use mathlib.Core.List.{[], ◌∷◌}
use mathlib.Core.Path.{refl}
use native.Mathlib.Omega.{arith}
use Rattle.blocks.proofs.front.a_line.Goals as goal

pub returns-then-two-eq15713 : goal.returns-then-two-eq15713
returns-then-two-eq15713 c =
    let l = c.args.log.now in
    let k = key_first (97 ∷ []) (97 ∷ 61 ∷ []) l (λ x. refl) refl (omega (arith, c.requires)) c.two.ensures c.if-two-eq15713.true in
    number_read (97 ∷ []) l (drop 2 l) c.number_behind.result refl (omega arith) k refl (omega (arith, length-drop 2 l, c.requires)) c.number_behind.ensures c.line_from.ensures
