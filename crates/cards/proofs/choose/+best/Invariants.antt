use Rattle.std.proofs.Common.{◌-◌, length}
use Rattle.cards.proofs.choose.+best.Given as goal

abbrev pub decreases-best : goal.decreases-best
decreases-best l = length l.cards.now - l.at
