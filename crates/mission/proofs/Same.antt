-- Two results that a promise allows coincide: once for promises of the form `r ≡ f ..`, and once for those of writers (`Wrote`). Assumes nothing.
use Prim.Native.Nat.{ℕ}
use mathlib.Core.Path.{◌≡◌, sym, ◌∙◌}
use mathlib.Core.List.{List}
use Rattle.writing.specs.AnswerSheet.{Wrote}

pub coincide : {A : Type 0} {f r s : A} → r ≡ f → s ≡ f → r ≡ s
coincide p q = p ∙ sym q

pub writers_coincide : {bs old x y : List ℕ} {r s : ℕ} → Wrote bs old x r → Wrote bs old y s → (x ≡ y) × (r ≡ s)
writers_coincide p q = (coincide p.sheet q.sheet, coincide p.count q.count)
