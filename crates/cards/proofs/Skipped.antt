-- The search by skipping meets the same hands as the choices of "Hand order", in another order; and the best of some hands does not depend on their order.
-- For any number of cards and any ranking that has places. Assumes nothing.
use mathlib.Core.Path.{◌≡◌, refl, sym, ap, ◌∙◌, subst}
use mathlib.Core.Bool.{false}
use mathlib.Core.Logic.{⊎_elim}
use mathlib.Core.List.Memᴰ
use mathlib.Core.List.{List, [], ◌∷◌, ◌++◌, map, map-append, map-map, Memᴰ}
use Prim.Native.Nat.{ℕ, zero, suc, ◌+◌, ◌<◌, ◌≤◌}
use native.Mathlib.Omega.{arith}
use lib.ListN.{length, get_or}
use Rattle.cards.specs.Hands.{value_of}
use Rattle.cards.specs.Order.{beats_by, keep, choices, values_from, Tie, Placed}
use Rattle.cards.specs.Searching.{leaving, values_left}
use Rattle.cards.specs.declared.Hand.{Hand}
use Rattle.cards.specs.declared.Ranking.{Ranking}
use Rattle.cards.proofs.Above.{tie_same}
use Rattle.cards.proofs.Kept.{keep_over, keep_top, keep_among}
use Rattle.cards.proofs.Choices.{choices_all, shift}
use Rattle.cards.proofs.Packed.{class_told}
use Rattle.cards.proofs.Searched.{value_class}

leaving_short : (k : ℕ) (l : List ℕ) → length l < k → leaving k l ≡ []
unfolding leaving
leaving_short zero l h = absurd (omega arith)
leaving_short (suc k) [] h = refl
leaving_short (suc k) (c ∷ l) h = rw (leaving_short k l (omega arith), leaving_short (suc k) l (omega arith))

-- where more are to be skipped than there are, nothing is met
pub values_short : (t : Ranking) (p : List ℕ) (k : ℕ) (l : List ℕ) → length l < k → values_left t p k l ≡ []
unfolding values_left
values_short t p k l h = ap (map (λ m. value_of t (p ++ m))) (leaving_short k l h)

-- where none is to be skipped, all are taken
pub values_whole : (t : Ranking) (p l : List ℕ) → values_left t p 0 l ≡ value_of t (p ++ l) ∷ []
unfolding values_left leaving
values_whole t p l = refl

-- the next card is skipped, or taken
pub values_next : (t : Ranking) (p : List ℕ) (k c : ℕ) (l : List ℕ) → values_left t p (suc k) (c ∷ l) ≡ values_left t p k l ++ values_left t (p ++ (c ∷ [])) (suc k) l
unfolding values_left leaving
values_next t p k c l =
    map-append (λ m. value_of t (p ++ m)) (leaving k l) (map (λ m. c ∷ m) (leaving (suc k) l)) ∙
    ap (λ (xs : List Hand). map (λ m. value_of t (p ++ m)) (leaving k l) ++ xs)
    (map-map (λ m. value_of t (p ++ m)) (λ m. c ∷ m) (leaving (suc k) l) ∙ shift t p c (leaving (suc k) l))

abbrev Met : List ℕ → List (List ℕ) → Type 0
Met m ms = Memᴰ m ms

-- what is left of l when s are skipped is a choice of the others, and the other way round
left_choice : (s k : ℕ) (l m : List ℕ) → s + k ≡ length l → Met m (leaving s l) → Met m (choices k l)
unfolding leaving choices
left_choice zero k l m e i = rw (choices_all k l (omega arith)) i
left_choice (suc s) k [] m e i = absurd (Memᴰ.not-nil i)
left_choice (suc s) zero (c ∷ l) m e i =
    ⊎_elim
    (λ (j : Met m (leaving s l)). left_choice s zero l m (omega arith) j)
    (λ (j : Met m (map (λ n. c ∷ n) (leaving (suc s) l))). absurd (Memᴰ.not-nil (Memᴰ.of_map (λ n. c ∷ n) [] (rw (leaving_short (suc s) l (omega arith)) at j)).1))
    (Memᴰ.append_cases (leaving s l) i)
left_choice (suc s) (suc k) (c ∷ l) m e i =
    ⊎_elim
    (λ (j : Met m (leaving s l)). Memᴰ.append_right (map (λ n. c ∷ n) (choices k l)) (left_choice s (suc k) l m (omega arith) j))
    (λ (j : Met m (map (λ n. c ∷ n) (leaving (suc s) l))).
    let r = Memᴰ.of_map (λ n. c ∷ n) (leaving (suc s) l) j in
    Memᴰ.append_left (choices (suc k) l) (Memᴰ.cast (sym r.2) (Memᴰ.map (λ n. c ∷ n) (left_choice (suc s) k l r.0 (omega arith) r.1))))
    (Memᴰ.append_cases (leaving s l) i)

choice_left : (s k : ℕ) (l m : List ℕ) → s + k ≡ length l → Met m (choices k l) → Met m (leaving s l)
unfolding leaving choices
choice_left zero k l m e i = rw (choices_all k l (omega arith)) at i
choice_left (suc s) k [] m e i = absurd (omega arith)
choice_left (suc s) zero (c ∷ l) m e i = Memᴰ.append_left (map (λ n. c ∷ n) (leaving (suc s) l)) (choice_left s zero l m (omega arith) i)
choice_left (suc s) (suc k) (c ∷ l) m e i =
    ⊎_elim
    (λ (j : Met m (map (λ n. c ∷ n) (choices k l))).
    let r = Memᴰ.of_map (λ n. c ∷ n) (choices k l) j in
    Memᴰ.append_right (leaving s l) (Memᴰ.cast (sym r.2) (Memᴰ.map (λ n. c ∷ n) (choice_left (suc s) k l r.0 (omega arith) r.1))))
    (λ (j : Met m (choices (suc k) l)). Memᴰ.append_left (map (λ n. c ∷ n) (leaving (suc s) l)) (choice_left s (suc k) l m (omega arith) j))
    (Memᴰ.append_cases (map (λ n. c ∷ n) (choices k l)) i)

module _ (t : Ranking) (pl : Placed t) where
  tied_nine : (h g : Hand) → h.class ≤ 9 → g.class ≤ 9 → Tie t h g → h ≡ g
  tied_nine h g p q e = λ i. record {
    class = class_told t pl h.class g.class p q (ap (λ (l : List ℕ). get_or l 0 0) e) i;
    r1 = get_or (e i) 1 0;
    r2 = get_or (e i) 2 0;
    r3 = get_or (e i) 3 0;
    r4 = get_or (e i) 4 0;
    r5 = get_or (e i) 5 0;
  }

  kept_top : (h v : Hand) (xs : List Hand) → Memᴰ v (h ∷ xs) → beats_by t v (keep t h xs) ≡ false
  kept_top h v xs i =
      ⊎_elim
      (λ (e : v ≡ h). subst (λ (w : Hand). beats_by t w (keep t h xs) ≡ false) (sym e) (keep_over t h xs))
      (λ (j : Memᴰ v xs). keep_top t h v xs j)
      (Memᴰ.cases_cons i)

  -- the best of the same hands, met in any two orders
  pub keep_same : (h : Hand) (xs ys : List Hand) → h.class ≤ 9 → ((v : Hand) → Memᴰ v xs → v.class ≤ 9)
      → ((v : Hand) → Memᴰ v xs → Memᴰ v ys) → ((v : Hand) → Memᴰ v ys → Memᴰ v xs) → keep t h xs ≡ keep t h ys
  keep_same h xs ys nine small there back =
      let forth : (v : Hand) → Memᴰ v (h ∷ xs) → Memᴰ v (h ∷ ys) = λ v i. ⊎_elim (λ (e : v ≡ h). Memᴰ.head e) (λ (j : Memᴰ v xs). Memᴰ.tail (there v j)) (Memᴰ.cases_cons i) in
      let home : (v : Hand) → Memᴰ v (h ∷ ys) → Memᴰ v (h ∷ xs) = λ v i. ⊎_elim (λ (e : v ≡ h). Memᴰ.head e) (λ (j : Memᴰ v ys). Memᴰ.tail (back v j)) (Memᴰ.cases_cons i) in
      let some : (v : Hand) → Memᴰ v (h ∷ xs) → v.class ≤ 9 = λ v i. ⊎_elim (λ (e : v ≡ h). subst (λ (w : Hand). w.class ≤ 9) (sym e) nine) (λ (j : Memᴰ v xs). small v j) (Memᴰ.cases_cons i) in
      let r = keep_among t h xs in
      let s = keep_among t h ys in
      tied_nine (keep t h xs) (keep t h ys) (some (keep t h xs) r) (some (keep t h ys) (home (keep t h ys) s))
      (tie_same t (keep t h xs) (keep t h ys) (kept_top h (keep t h xs) ys (forth (keep t h xs) r)) (kept_top h (keep t h ys) xs (home (keep t h ys) s)))

  -- the search by skipping finds what the choices have, whichever way the cards taken before are listed
  pub left_best : (h : Hand) (p q : List ℕ) (s k : ℕ) (l : List ℕ) → h.class ≤ 9 → s + k ≡ length l → ((m : List ℕ) → value_of t (p ++ m) ≡ value_of t (q ++ m))
      → keep t h (values_left t p s l) ≡ keep t h (values_from t q k l)
  unfolding values_left values_from
  left_best h p q s k l nine e same =
      keep_same h (map (λ m. value_of t (p ++ m)) (leaving s l)) (map (λ m. value_of t (q ++ m)) (choices k l)) nine
      (λ v i. let r = Memᴰ.of_map (λ m. value_of t (p ++ m)) (leaving s l) i in subst (λ (w : Hand). w.class ≤ 9) r.2 (value_class t (p ++ r.0)))
      (λ v i. let r = Memᴰ.of_map (λ m. value_of t (p ++ m)) (leaving s l) i in
      Memᴰ.cast (sym r.2 ∙ same r.0) (Memᴰ.map (λ m. value_of t (q ++ m)) (left_choice s k l r.0 e r.1)))
      (λ v i. let r = Memᴰ.of_map (λ m. value_of t (q ++ m)) (choices k l) i in
      Memᴰ.cast (sym r.2 ∙ sym (same r.0)) (Memᴰ.map (λ m. value_of t (p ++ m)) (choice_left s k l r.0 e r.1)))
