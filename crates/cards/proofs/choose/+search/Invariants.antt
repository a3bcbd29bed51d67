use Rattle.std.proofs.Common.{◌+◌, ◌-◌}
use Rattle.cards.proofs.choose.+search.Given as goal

-- proposed from what the function passes where it calls itself
abbrev pub decreases-search : goal.decreases-search
decreases-search l = 5 + l.spare - l.have
