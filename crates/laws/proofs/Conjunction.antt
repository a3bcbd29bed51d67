-- A test that both of two hold, where the second is known. Assumes nothing.
use mathlib.Core.Bool.{Bool, true, false}
use mathlib.Core.Path.{◌≡◌, refl}
use Rattle.laws.specs.Tests.{both}

pub both_end : (a : Bool) → both a true ≡ a
both_end true = refl
both_end false = refl

pub both_none : (a : Bool) → both a false ≡ false
both_none true = refl
both_none false = refl
