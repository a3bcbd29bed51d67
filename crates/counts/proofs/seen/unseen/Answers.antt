-- No cards are seen yet.
use mathlib.Core.Path.{refl}
use Rattle.counts.proofs.Gathered.{unseen_is}
use Rattle.counts.proofs.seen.unseen.Goals as goal

pub returns : goal.returns
returns c = record { is = unseen_is; small = refl }
