-- `front_rest` meets its contract: the bytes behind those that the block uses up are the rest of the log.
use mathlib.Core.Path.{ap, ◌∙◌}
use Prim.Native.Nat.{ℕ}
use lib.ListN.{drop}
use Rattle.text.proofs.Parts.{part_is}
use Rattle.blocks.proofs.Blocks.{rest_drop}
use Rattle.blocks.proofs.front.front_rest.Goals as goal

pub returns : goal.returns
returns c =
    let s = c in
    let l = s.args.log.now in
    part_is s.args.used l ∙ ap (λ (k : ℕ). drop k l) s.requires ∙ rest_drop l
