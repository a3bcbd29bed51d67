-- A part of a slice from a place on is all that follows, nothing stands behind it, and who uses some of it goes further. Assumes nothing.
use mathlib.Core.Path.{◌≡◌, ap, ◌∙◌}
use mathlib.Core.List.{List, ◌++◌, append-nil}
use Prim.Native.Nat.{ℕ, ◌+◌, ◌-◌, ◌<◌}
use native.Mathlib.Nat.{le_refl}
use native.Mathlib.Omega.{arith}
use lib.ListN.{length, take, drop, length-drop, drop_of_length-le}
use lib.Seq.{take_all}
use borrow.Rule.Slice.PartMut.{mid_of, put_mid}

pub part_is : (a : ℕ) (s : List ℕ) → mid_of a (length s - a) s ≡ drop a s
part_is a s = take_all (length s - a) (drop a s) (rw (length-drop a s) (le_refl _))

pub part_back : (a : ℕ) (s t : List ℕ) → put_mid a (length s - a) s t ≡ take a s ++ t
part_back a s t =
    ap (λ (r : List ℕ). take a s ++ r)
    (ap (λ (r : List ℕ). t ++ r) (drop_of_length-le (drop a s) {i = length s - a} (rw (length-drop a s) (le_refl _))) ∙ append-nil t)

-- a call that uses some of a part with bytes goes further
pub goes_further : (part : List ℕ) (from : ℕ) {to u : ℕ} → to ≡ from + u → from < length part → (0 < length (mid_of from (length part - from) part) → 0 < u) → from < to
goes_further part from {to} {u} e l h =
    let m : 0 < u = h (omega (arith, ap length (part_is from part), length-drop from part)) in
    omega (arith, e)
