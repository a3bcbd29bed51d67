-- What a good sheet tells of its numbers, and that the stand-in is one. Assumes nothing.
use Prim.Native.Nat.{ℕ, zero, suc, ◌≤◌, ◌<◌, ◌^◌}
use mathlib.Core.Bool.{Bool, true, not, true≢false}
use mathlib.Core.List.{List, [], ◌∷◌}
use mathlib.Core.Path.{◌≡◌, refl, sym, ap, ap₂, ◌∙◌}
use mathlib.Core.Logic.{◌⊎◌, inl, inr, ⊎_elim}
use native.Mathlib.Omega.{arith}
use lib.ListN.{get_or}
use lib.Dec.{leb, eqb}
use borrow.Author.Tests.{leb-true, eqb-true}
use Rattle.laws.specs.Lists.{sum_of}
use Rattle.laws.specs.Tests.{both, either}
use Rattle.laws.proofs.Tests.{both_true, test}
use Rattle.laws.proofs.Sums.{at_most_sum}
use Rattle.paper.specs.SheetAndEntries.{between, all_of, sheet_values, sheet_by, is_charge, is_game, is_deck, dealt_from, is_sheet, stand_in}
use Rattle.paper.specs.declared.Sheet.{Sheet}
use Rattle.paper.proofs.Codes.{between_in}

-- each of some tests that all hold; past the last there is none
pub each_holds : (ts : List Bool) → all_of ts ≡ true → (k : ℕ) → get_or ts k true ≡ true
each_holds [] h k = refl
each_holds (t ∷ []) h zero = h
each_holds (t ∷ []) h (suc k) = refl
each_holds (t ∷ u ∷ ts) h zero = (both_true t (all_of (u ∷ ts)) h).0
each_holds (t ∷ u ∷ ts) h (suc k) = each_holds (u ∷ ts) (both_true t (all_of (u ∷ ts)) h).1 k

-- the two games
pub game_is : (x : ℕ) → is_game x ≡ true → (x ≡ 2) ⊎ (x ≡ 4)
game_is x h = ⊎_elim (λ e. inl (eqb-true x 2 e)) (λ e. inr (eqb-true x 4 (sym (ap (λ (b : Bool). either b (eqb x 4)) e) ∙ h))) (test (eqb x 2))

-- the two decks
pub deck_is : (x : ℕ) → is_deck x ≡ true → (x ≡ 52) ⊎ (x ≡ 32)
deck_is x h = ⊎_elim (λ e. inl (eqb-true x 52 e)) (λ e. inr (eqb-true x 32 (sym (ap (λ (b : Bool). either b (eqb x 32)) e) ∙ h))) (test (eqb x 52))

-- four hole cards are never dealt from the deck of 32
pub four_not_32 : (game deck : ℕ) → dealt_from game deck ≡ true → game ≡ 4 → deck ≡ 32 → ⊥
four_not_32 game deck h g d = true≢false (sym h ∙ ap₂ dealt_from g d)

-- the ranges of a good sheet
pub record InRange (s : Sheet) : Type 0 where
  pub seats : (2 ≤ s.seats) × (s.seats ≤ 10)
  pub small : (1 ≤ s.small) × (s.small ≤ s.big)
  pub big : s.big ≤ 10000
  pub rate : s.rate ≤ 100
  pub cap : s.cap ≤ 1000000
  pub step : (1 ≤ s.step) × (s.step ≤ 1000)
  pub game : is_game s.game ≡ true
  pub deck : is_deck s.deck ≡ true
  pub dealt : dealt_from s.game s.deck ≡ true
  pub drop : s.drop ≤ 1000

pub good_ranged : (s : Sheet) → is_sheet s ≡ true → InRange s
unfolding is_sheet
good_ranged s h =
    let tests : List Bool =
    between 2 10 s.seats ∷ leb 1 s.small ∷ leb s.small s.big ∷ leb s.big 10000 ∷ is_charge s.rate s.cap s.step s.drop ∷ dealt_from s.game s.deck ∷ [] in
    let each = each_holds tests h in
    let charge = each_holds (leb s.rate 100 ∷ leb s.cap 1000000 ∷ between 1 1000 s.step ∷ leb s.drop 1000 ∷ []) (each 4) in
    let dealt = each_holds (is_game s.game ∷ is_deck s.deck ∷ not (both (eqb s.deck 32) (eqb s.game 4)) ∷ []) (each 5) in
    record {
      seats = between_in 2 10 s.seats (each 0);
      small = (leb-true 1 s.small (each 1), leb-true s.small s.big (each 2));
      big = leb-true s.big 10000 (each 3);
      rate = leb-true s.rate 100 (charge 0);
      cap = leb-true s.cap 1000000 (charge 1);
      step = between_in 1 1000 s.step (charge 2);
      game = dealt 0;
      deck = dealt 1;
      dealt = each 5;
      drop = leb-true s.drop 1000 (charge 3);
    }

game_small : (x : ℕ) → is_game x ≡ true → x ≤ 4
game_small x h = ⊎_elim (λ e. omega arith) (λ e. omega arith) (game_is x h)

deck_small : (x : ℕ) → is_deck x ≡ true → x ≤ 52
deck_small x h = ⊎_elim (λ e. omega arith) (λ e. omega arith) (deck_is x h)

-- so each number has at most nine digits
pub good_small : (s : Sheet) → is_sheet s ≡ true → (k : ℕ) → get_or (sheet_values s) k 0 < 10 ^ 9
unfolding sum_of
good_small s h k =
    let r = good_ranged s h in
    omega (arith, r.seats, r.small, r.big, r.rate, r.cap, r.step, game_small s.game r.game, deck_small s.deck r.deck, r.drop, at_most_sum (sheet_values s) k)

-- the numbers of a sheet make it
pub sheet_made : (s : Sheet) → sheet_by (sheet_values s) ≡ s
sheet_made s = refl

pub stand_in_good : is_sheet stand_in ≡ true
unfolding is_sheet
stand_in_good = refl
