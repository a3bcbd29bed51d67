-- A part of a list: what is left of its front once some of it is dropped. Assumes nothing.
use Prim.Native.Nat.{ℕ, zero, suc, ◌-◌}
use mathlib.Core.Path.{◌≡◌}
use mathlib.Core.List.{List, [], ◌∷◌}
use native.Mathlib.Nat.{sub-zero, zero-sub, suc-sub-suc}
use lib.ListN.{take, drop}
use lib.Seq.{take-nil}

pub drop_take : {A : Type 0} (a e : ℕ) (l : List A) → drop a (take e l) ≡ take (e - a) (drop a l)
drop_take zero e l = rw (sub-zero e)
drop_take (suc a) zero l = rw (zero-sub (suc a))
drop_take (suc a) (suc e) [] = rw (take-nil (suc e - suc a))
drop_take (suc a) (suc e) (x ∷ l) = rw (suc-sub-suc e a) (drop_take a e l)
