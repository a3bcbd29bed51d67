-- `sum` meets its contract: what `more` gives of two numbers of 32 bits fits in 32.
use Rattle.std.proofs.Common.{◌≡◌, ℕ, ◌+◌, ◌<◌, ◌^◌, Bool, true, false, ltb, refl, ◌∙◌, arith}
use mathlib.Core.Path.{ap₂}
use borrow.Author.Tests.{ltb-false}
use Rattle.laws.specs.Tests.{pick, either}
use Rattle.spots.specs.Spots.{more_by, place_most}
use Rattle.spots.proofs.sum.Goals as goal

more_fits : (a b : ℕ) → a < 2 ^ 32 → more_by a b < 2 ^ 32
unfolding more_by
more_fits a b l = go (ltb place_most a) refl (ltb place_most b) refl
  where
    go : (s : Bool) → ltb place_most a ≡ s → (t : Bool) → ltb place_most b ≡ t → pick (either s t) a (a + b) < 2 ^ 32
    go true e t f = l
    go false e true f = l
    go false e false f = omega (arith, ltb-false place_most a e, ltb-false place_most b f)

pub overflow_cast-result : goal.overflow_cast-result
overflow_cast-result c =
    let l : c.from.result < 2 ^ 32 = omega (arith, c.from.ensures, c.ranges.a.fits) in
    record { fits = omega (arith, c.more.ensures, more_fits c.from.result c.from-2.result l) }

pub returns : goal.returns
returns c = c.more.ensures ∙ ap₂ more_by c.from.ensures c.from-2.ensures
