-- `chip_seats` meets its contract: the seats count what all chairs count. Assumes nothing.
use borrow.Author.Rules.{rules}
use mathlib.Core.Path.{refl, ◌∙◌}
use Rattle.chairs.specs.Chairs.{want_of}
use Rattle.chairs.specs.Who.{Chips}
use Rattle.chairs.proofs.Above.{count_seats}
use Rattle.chairs.proofs.passes.chip_seats.Goals as goal

pub returns : goal.returns
returns c =
    let p = want_of Chips in
    (c.count.ensures p (λ d r f. search rules) ∙ count_seats p refl _ c.args.cs c.requires.0.above, c.first_from.ensures p (λ d r f. search rules))
