-- `do_line` meets its contract.
use Rattle.blocks.proofs.Fronts.{key_then, kind_read}
use Rattle.text.proofs.Parts.{part_is}
use mathlib.Core.List.{[], ◌∷◌}
use mathlib.Core.Path.{refl}
use native.Mathlib.Omega.{arith}
use borrow.Author.Rules.{rules}
use Rattle.blocks.proofs.front.do_line.Goals as goal

pub returns-then-log-eq61 : goal.returns-then-log-eq61
returns-then-log-eq61 c =
    let l = c.args.log.now in
    let k = key_then (100 ∷ 111 ∷ []) l (λ x. refl) refl (omega (arith, c.requires)) c.two.ensures c.if-two-eq28516.true c.if-log-eq61.true in
    kind_read l _ c.word_ended.result k (part_is 3 l) (search rules) c.word_ended.ensures c.line_from.ensures
