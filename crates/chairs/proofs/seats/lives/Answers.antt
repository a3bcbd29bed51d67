-- `lives` meets its contract: the seats count what all chairs count. Assumes nothing.
use borrow.Author.Rules.{rules}
use mathlib.Core.Path.{refl, ◌∙◌}
use Rattle.chairs.specs.Chairs.{want_of}
use Rattle.chairs.specs.Who.{Live}
use Rattle.chairs.proofs.Above.{count_seats}
use Rattle.chairs.proofs.seats.lives.Goals as goal

pub returns : goal.returns
returns c = c.count.ensures (want_of Live) (λ d r h. search rules) ∙ count_seats (want_of Live) refl _ c.args.cs c.requires.above
