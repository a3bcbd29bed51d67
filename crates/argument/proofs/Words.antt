-- Two lists compared by `==` are compared as `same_list` says. Assumes nothing.
use Rattle.std.proofs.Common.{◌≡◌, ℕ, Bool, true, false, List, [], ◌∷◌, ◌&&◌, refl, ap, ◌∙◌}
use lib.Dec.{eqb}
use lib.Pointwise.{pointwise}
use Rattle.laws.specs.Tests.{both}
use Rattle.laws.specs.Listing.{same_list}

pub pointwise_same : (l m : List ℕ) → pointwise eqb l m ≡ same_list l m
pointwise_same [] [] = refl
pointwise_same [] (y ∷ m) = refl
pointwise_same (x ∷ l) [] = refl
pointwise_same (x ∷ l) (y ∷ m) = ap (λ b. eqb x y && b) (pointwise_same l m) ∙ as_both (eqb x y) (same_list l m)
  where
    as_both : (a b : Bool) → (a && b) ≡ both a b
    as_both true b = refl
    as_both false b = refl
