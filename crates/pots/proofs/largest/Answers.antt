-- `largest` meets its contract.
-- Assumes nothing.
use Rattle.std.proofs.Common.{◌≡◌, ◌∙◌, max, fold, rules}
use Rattle.pots.proofs.Backward.{max_is}
use Rattle.pots.proofs.largest.Goals as goal

pub returns : goal.returns
returns c =
    let e : c.fold.result ≡ fold (λ m x. max x m) 0 c.args.xs = search rules in
    e ∙ max_is c.args.xs
