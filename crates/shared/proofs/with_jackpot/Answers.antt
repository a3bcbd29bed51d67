-- `with_jackpot` meets its contract: all else stays. Assumes nothing.
use mathlib.Core.Path.{refl}
use Rattle.shared.specs.Shared.{with_jackpot}
use Rattle.shared.proofs.Laws.{shown_small}
use Rattle.shared.proofs.with_jackpot.Goals as goal

pub returns : goal.returns
unfolding with_jackpot
returns c =
    let s = c in
    (refl, shown_small s.args.s s.args.amount s.requires.0 s.requires.1)
