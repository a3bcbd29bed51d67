-- What is left of a part of the input, from a place within it on, is not empty. Assumes nothing.
use Prim.Native.Nat.{ℕ, ◌-◌, ◌<◌}
use mathlib.Core.Path.{◌≡◌}
use mathlib.Core.List.{List}
use native.Mathlib.Nat.{le_refl}
use native.Mathlib.Omega.{arith}
use lib.ListN.{length, drop, length-drop}
use lib.Seq.{length-take-le}
use borrow.Rule.Slice.PartMut.{mid_of}

pub rest_some : (part : List ℕ) (from : ℕ) → from < length part → 0 < length (mid_of from (length part - from) part)
rest_some part from l =
    let e : length (mid_of from (length part - from) part) ≡ length part - from = length-take-le (length part - from) (drop from part) (rw (length-drop from part) (le_refl _)) in
    omega (arith, e, l)
