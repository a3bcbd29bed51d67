-- `n_line` meets its contract.
use Rattle.blocks.proofs.Fronts.{key_first, number_read}
use Rattle.text.proofs.Parts.{part_is}
use mathlib.Core.List.{[], ◌∷◌}
use mathlib.Core.Path.{refl}
use native.Mathlib.Omega.{arith}
use borrow.Author.Rules.{rules}
use Rattle.blocks.proofs.front.n_line.Goals as goal

pub returns-then-two-eq15726 : goal.returns-then-two-eq15726
returns-then-two-eq15726 c =
    let l = c.args.log.now in
    let k = key_first (110 ∷ []) (110 ∷ 61 ∷ []) l (λ x. refl) refl (omega (arith, c.requires)) c.two.ensures c.if-two-eq15726.true in
    number_read (110 ∷ []) l _ c.number_ended.result refl (omega arith) k (part_is 2 l) (search rules) c.number_ended.ensures c.line_from.ensures
