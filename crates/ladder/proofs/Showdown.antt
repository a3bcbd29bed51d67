-- What is kept of a hand at a showdown: of 32 cards the old form, else the place, which is 7,462 at most (`place_most`); so it is small. Assumes nothing.
use Prim.Native.Nat.{ℕ, ◌<◌, ◌≤◌}
use mathlib.Core.Bool.{Bool, true, false}
use mathlib.Core.Path.{◌≡◌, ap}
use mathlib.Core.Logic.{⊎_elim}
use native.Mathlib.Omega.{arith}
use lib.Dec.{eqb}
use Rattle.laws.specs.Tests.{pick}
use Rattle.laws.proofs.Tests.{test}
use Rattle.laws.proofs.Standing.{fewer}
use Rattle.cards.specs.Order.{ranking_of, strength_by}
use Rattle.cards.specs.declared.Hand.{Hand}
use Rattle.cards.proofs.Spelled.{strength_small}
use Rattle.ladder.specs.Ladder.{ladder, is_on, beats52, place_of, kept_of}
use Rattle.ladder.proofs.Laid.{ladder_length, hands_order}
use Rattle.ladder.proofs.Reckons.{is_on_law, on_place, off_place}

-- no `Hand` has a place above 7,462: what is no hand has the place 0
pub place_most : (h : Hand) → place_of h ≤ 7462
place_most h =
    ⊎_elim
    (λ (e : is_on h ≡ true). let i = is_on_law h e in omega (arith, on_place h i, ladder_length, fewer beats52 hands_order h ladder i))
    (λ (e : is_on h ≡ false). omega (arith, off_place h e))
    (test (is_on h))

-- ---- what is kept: of 32 cards the old form, else the place
pub kept_old : (deck : ℕ) (h : Hand) → eqb deck 32 ≡ true → kept_of deck h ≡ strength_by (ranking_of deck) h
unfolding kept_of
kept_old deck h e = ap (λ (b : Bool). pick b (strength_by (ranking_of deck) h) (place_of h)) e

pub kept_place : (deck : ℕ) (h : Hand) → eqb deck 32 ≡ false → kept_of deck h ≡ place_of h
unfolding kept_of
kept_place deck h e = ap (λ (b : Bool). pick b (strength_by (ranking_of deck) h) (place_of h)) e

pub kept_small : (deck : ℕ) (h : Hand) → kept_of deck h < 16777216
kept_small deck h =
    ⊎_elim
    (λ (e : eqb deck 32 ≡ true). omega (arith, kept_old deck h e, strength_small (ranking_of deck) h))
    (λ (e : eqb deck 32 ≡ false). omega (arith, kept_place deck h e, place_most h))
    (test (eqb deck 32))
