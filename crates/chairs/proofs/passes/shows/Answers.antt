-- `shows` meets its contract: the seats count what all chairs count. Assumes nothing.
use borrow.Author.Rules.{rules}
use mathlib.Core.Path.{refl, ◌∙◌}
use Rattle.chairs.specs.Chairs.{want_of}
use Rattle.chairs.specs.Who.{Live, Bare}
use Rattle.chairs.proofs.Above.{count_seats}
use Rattle.chairs.proofs.passes.shows.Goals as goal

pub returns : goal.returns
returns c =
    let p = want_of Live in
    let q = want_of (Bare c.args.game) in
    let h = c.requires.above in (
      c.count.ensures p (λ d r f. search rules) ∙ count_seats p refl _ c.args.cs h,
      c.count-2.ensures q (λ d r f. search rules) ∙ count_seats q refl _ c.args.cs h,
    )
