-- Document 02, request No. 11: "comparing places equals the old comparison for all valid hands and each place occurs". Assumes nothing.
use mathlib.Core.Path.{◌≡◌, refl, sym, ap, ◌∙◌}
use mathlib.Core.Bool.{true, false}
use mathlib.Core.Logic.{◌↔◌, ⊎_elim}
use mathlib.Core.List.{List, [], ◌∷◌}
use Prim.Native.Nat.{ℕ, suc, ◌-◌, ◌<◌, ◌≤◌}
use native.Mathlib.Omega.{arith}
use lib.Dec.{ltb}
use borrow.Author.Tests.{lt-ltb, ltb-true}
use Rattle.laws.specs.Often.{tally}
use Rattle.laws.proofs.Tests.{test}
use Rattle.laws.proofs.Compare.{same_test}
use Rattle.cards.specs.Cards.{in_row}
use Rattle.cards.specs.Hands.{hand}
use Rattle.cards.specs.Order.{ranking52, key, above}
use Rattle.cards.specs.declared.Hand.{Hand}
use Rattle.cards.proofs.Above.{tie_same}
use Rattle.ladder.specs.Ladder.{ladder, beats52, Tie52, worth52, FiveCards, Valid, place_of}
use Rattle.ladder.specs.Reckoned.{row_place, reckoned_as}
use Rattle.laws.proofs.Standing.{more, fewer, occurs}
use Rattle.ladder.proofs.Laid.{ladder_length, hands_order, ladder_falls}
use Rattle.ladder.proofs.Reckons.{on_place, reckons}
use Rattle.places.proofs.Dealt.{dealt}
use Rattle.places.proofs.Fives.{valid_stands}

module _ (h g : Hand) (v : Valid h) (w : Valid g) where
  -- the better hand has the higher place
  higher : beats52 h g ≡ true → place_of g < place_of h
  higher e =
      let i = valid_stands h v in
      let j = valid_stands g w in
      omega (arith, on_place h i, on_place g j, more beats52 hands_order h g ladder e j)

  -- hands that tie are above the same hands
  tied : Tie52 h g → place_of h ≡ place_of g
  tied t =
      on_place h (valid_stands h v)
      ∙ ap (λ (k : List ℕ). suc (tally (λ x. above k (key ranking52 x)) ladder)) t
      ∙ sym (on_place g (valid_stands g w))

module _ (h g : Hand) (v : Valid h) (w : Valid g) where
  level : place_of h ≡ place_of g → Tie52 h g
  level e =
      tie_same ranking52 h g
      (⊎_elim (λ (b : beats52 h g ≡ true). absurd (omega (arith, e, higher h g v w b))) (λ b. b) (test (beats52 h g)))
      (⊎_elim (λ (b : beats52 g h ≡ true). absurd (omega (arith, e, higher g h w v b))) (λ b. b) (test (beats52 g h)))

  lower : place_of g < place_of h → beats52 h g ≡ true
  lower l =
      ⊎_elim (λ b. b)
      (λ (b : beats52 h g ≡ false).
      ⊎_elim
      (λ (c : beats52 g h ≡ true). absurd (omega (arith, l, higher g h w v c)))
      (λ (c : beats52 g h ≡ false). absurd (omega (arith, l, tied h g v w (tie_same ranking52 h g b c))))
      (test (beats52 g h)))
      (test (beats52 h g))

  -- comparing places is comparing hands, and places are the same exactly where the hands tie
  pub place_compare : (beats52 h g ≡ ltb (place_of g) (place_of h)) × ((place_of h ≡ place_of g) ↔ Tie52 h g)
  place_compare = (
    same_test (beats52 h g) (ltb (place_of g) (place_of h)) (λ e. lt-ltb (place_of g) (place_of h) (higher h g v w e)) (λ e. lower (ltb-true (place_of g) (place_of h) e)),
    (level, tied h g v w),
  )

-- "its place, 1 to 7,462"
pub place_range : (h : Hand) → Valid h → (1 ≤ place_of h) × (place_of h ≤ 7462)
place_range h v =
    let i = valid_stands h v in
    (omega (arith, on_place h i), omega (arith, on_place h i, ladder_length, fewer beats52 hands_order h ladder i))

royal : reckoned_as 0 (hand 0 (14 ∷ 13 ∷ 12 ∷ 11 ∷ 10 ∷ [])) ≡ 7462
unfolding reckoned_as row_place in_row
royal = refl

-- "7,462 the royal flush"
pub place_royal : place_of (hand 0 (14 ∷ 13 ∷ 12 ∷ 11 ∷ 10 ∷ [])) ≡ 7462
place_royal = sym (reckons (hand 0 (14 ∷ 13 ∷ 12 ∷ 11 ∷ 10 ∷ []))) ∙ royal

-- "each place occurs": five different cards have it
pub place_occurs : (n : ℕ) → 1 ≤ n → n ≤ 7462 → (cards : List ℕ) × FiveCards cards × (place_of (worth52 cards) ≡ n)
place_occurs n lo hi =
    let t = occurs beats52 hands_order ladder ladder_falls (n - 1) (omega (arith, ladder_length)) in
    let v = dealt t.0 t.1 in
    (v.0, v.1, ap place_of (sym v.2) ∙ on_place t.0 t.1 ∙ omega (arith, t.2))
