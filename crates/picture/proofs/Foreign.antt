-- Laws of a foreign line's bytes as they are shown, one after another. Assumes nothing.
use mathlib.Core.Path.{◌≡◌}
use mathlib.Core.List.{List, [], ◌∷◌, ◌++◌, map-append}
use Prim.Native.Nat.{ℕ, ◌+◌, ◌≤◌, ◌<◌}
use native.Mathlib.Numerals.{add-one}
use native.Mathlib.Omega.{arith}
use lib.ListN.{length, take, set, get_or}
use lib.Seq.{take-suc, take_all}
use Rattle.figures.specs.Placing.{Put}
use Rattle.picture.specs.Rows.{visible_of, visible_all}
use Rattle.figures.proofs.Puts.{put_none, put_byte}

pub visible_start : (bs l : List ℕ) (a : ℕ) → a ≤ length l → Put (visible_all (take 0 bs)) a l l (a + 0)
visible_start bs l a h =
    let e : a + 0 ≡ a = omega arith in
    rw e (put_none a l h)

pub visible_on : (bs : List ℕ) (i : ℕ) {l s : List ℕ} {a : ℕ} → i < length bs → a + length bs ≤ length l → Put (visible_all (take i bs)) a l s (a + i)
    → Put (visible_all (take (i + 1) bs)) a l (set s (a + i) (visible_of (get_or bs i 0))) (a + (i + 1))
visible_on bs i {l} {s} {a} h k p =
    let e : a + (i + 1) ≡ a + i + 1 = omega arith in
    let t : visible_all (take (i + 1) bs) ≡ visible_all (take i bs) ++ (visible_of (get_or bs i 0) ∷ []) =
    rw (add-one i, take-suc bs i 0 h) (map-append visible_of (take i bs) (get_or bs i 0 ∷ [])) in
    rw (t, e) (put_byte (visible_of (get_or bs i 0)) (omega arith) p)

pub visible_done : (bs : List ℕ) (i : ℕ) {l s : List ℕ} {a : ℕ} → length bs ≤ i → Put (visible_all (take i bs)) a l s (a + i) → Put (visible_all bs) a l s (a + i)
visible_done bs i h p = rw (take_all i bs h) at p
