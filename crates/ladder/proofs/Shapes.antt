-- A hand for which the closed form gives a place stands on the ladder: its ranks are those of its class, so it is one of the choices. By class.
-- Assumes nothing.
use mathlib.Core.Path.{◌≡◌, refl, sym, ap, ◌∙◌}
use mathlib.Core.Bool.{Bool, true, false, not}
use mathlib.Core.Logic.{⊎_elim}
use mathlib.Core.List.Memᴰ
use mathlib.Core.List.{List, [], ◌∷◌, ◌++◌, map, Memᴰ}
use Prim.Native.Nat.{ℕ, zero, suc, ◌+◌, ◌-◌, ◌*◌, ◌<◌, ◌≤◌}
use native.Mathlib.Omega.{arith}
use lib.Dec.{eqb, ltb, leb}
use lib.ListN.{length}
use borrow.Author.Tests.{eqb-true, ltb-true, leb-true, eq-eqb, ne_eqb}
use Rattle.laws.specs.Tests.{one, both, either, pick}
use Rattle.laws.specs.Lists.{All}
use Rattle.laws.specs.Often.{count}
use Rattle.laws.proofs.Tests.{test, both_true}
use Rattle.laws.proofs.Rules.{all_below, below_all}
use Rattle.cards.specs.Cards.{in_row}
use Rattle.cards.specs.Hands.{hand}
use Rattle.cards.specs.Order.{choices}
use Rattle.cards.specs.declared.Hand.{Hand}
use Rattle.ladder.specs.Ladder.{ranks, besides, rows, is_straight, odds, twice, ranks_in, classes, ladder, tops, row_from, straight_flushes, fours, fulls, flushes, straights, threes, two_pairs, pairs, odd_cards}
use Rattle.ladder.specs.Reckoned.{up, less, two_below, three_below, falling_from, falling, apart, row_place, beside_place, four_place, full_place, odd_place, three_place, two_pair_place, pair_place, reckoned_as, reckoned}
use Rattle.laws.proofs.Members.{count_has, those_has, each_has}
use Rattle.laws.proofs.Choosing.{Drops, those_drop, choices_have}

pick_some : (b : Bool) (n : ℕ) → 0 < pick b n 0 → (b ≡ true) × (0 < n)
pick_some true n h = (refl, h)
pick_some false n h = absurd (omega arith)

pick_other : (b : Bool) (n : ℕ) → 0 < pick b 0 n → (b ≡ false) × (0 < n)
pick_other true n h = absurd (omega arith)
pick_other false n h = (refl, h)

-- ---- ranks
-- a list that holds every number from lo to 14
in_list : (lo : ℕ) (l : List ℕ) → all_below 15 (λ r. either (ltb r lo) (ltb 0 (count r l))) ≡ true → (r : ℕ) → lo ≤ r → r < 15 → Memᴰ r l
in_list lo l all r low high = count_has r l (go (ltb r lo) refl (below_all 15 (λ k. either (ltb k lo) (ltb 0 (count k l))) all r high))
  where
    go : (b : Bool) → ltb r lo ≡ b → either b (ltb 0 (count r l)) ≡ true → 0 < count r l
    go true e h = absurd (omega (arith, ltb-true r lo e))
    go false e h = ltb-true 0 (count r l) h

rank_has : (r : ℕ) → 1 < r → r < 15 → Memᴰ r ranks
rank_has r lo hi = in_list 2 ranks refl r lo hi

falling_drops : (x : ℕ) (l : List ℕ) → falling_from x l ≡ true → Drops x l
falling_drops x [] e = tt
falling_drops x (y ∷ l) e = let p = both_true (ltb y x) (falling_from y l) e in (ltb-true y x p.0, falling_drops y l p.1)

falling_above : (x : ℕ) (l : List ℕ) → falling_from x l ≡ true → 1 < x
falling_above x [] e = ltb-true 1 x e
falling_above x (y ∷ l) e = let p = both_true (ltb y x) (falling_from y l) e in omega (arith, ltb-true y x p.0, falling_above y l p.1)

falling_ranks : (x : ℕ) (l : List ℕ) → x ≤ 15 → falling_from x l ≡ true → All (λ y. Memᴰ y ranks) l
falling_ranks x [] h e = tt
falling_ranks x (y ∷ l) h e =
    let p = both_true (ltb y x) (falling_from y l) e in
    let q : y < x = ltb-true y x p.0 in
    (rank_has y (falling_above y l p.1) (omega arith), falling_ranks y l (omega arith) p.1)

ranks_drop : Drops 15 ranks
ranks_drop = falling_drops 15 ranks refl

-- none of the list is used
abbrev Clear : List ℕ → List ℕ → Type 0
Clear used l = All (λ y. count y used ≡ 0) l

besides_all : (used l : List ℕ) → All (λ y. Memᴰ y ranks) l → Clear used l → All (λ y. Memᴰ y (besides used)) l
besides_all used [] a c = tt
besides_all used (y ∷ l) a c =
    (those_has (λ r. eqb (count r used) 0) y ranks (eq-eqb (count y used) 0 c.0) a.0, besides_all used l a.1 c.1)

-- ranks that fall and are not used are a choice of those that are not
chosen_has : (used l : List ℕ) → falling l ≡ true → Clear used l → Memᴰ l (choices (length l) (besides used))
chosen_has used l e c =
    choices_have 15 (besides used) l (those_drop (λ r. eqb (count r used) 0) 15 ranks ranks_drop) (falling_drops 15 l e)
    (besides_all used l (falling_ranks 15 l (omega arith) e) c)

one_has : (used : List ℕ) (r : ℕ) → falling (r ∷ []) ≡ true → count r used ≡ 0 → Memᴰ r (besides used)
one_has used r e c = (besides_all used (r ∷ []) (falling_ranks 15 (r ∷ []) (omega arith) e) (c, tt)).0

apart_differ : (x y : ℕ) → apart x y ≡ true → x ≡ y → ⊥
apart_differ x y e q =
    ⊎_elim
    (λ (h : ltb x y ≡ true). omega (arith, ltb-true x y h, q))
    (λ (h : ltb x y ≡ false). omega (arith, q, ltb-true y x (sym (ap (λ (b : Bool). either b (ltb y x)) h) ∙ e)))
    (test (ltb x y))

apart_none : (x y : ℕ) (l : List ℕ) → apart x y ≡ true → count y l ≡ 0 → count y (x ∷ l) ≡ 0
apart_none x y l e c = let o : one (eqb y x) ≡ 0 = ap one (ne_eqb y x (λ q. apart_differ x y e (sym q))) in omega (arith, o, c)

apart_none_too : (x y : ℕ) (l : List ℕ) → apart y x ≡ true → count y l ≡ 0 → count y (x ∷ l) ≡ 0
apart_none_too x y l e c = let o : one (eqb y x) ≡ 0 = ap one (ne_eqb y x (apart_differ y x e)) in omega (arith, o, c)

-- a hand is its class and its ranks
hand_is : (h : Hand) (k a b c d e : ℕ) → h.class ≡ k → h.r1 ≡ a → h.r2 ≡ b → h.r3 ≡ c → h.r4 ≡ d → h.r5 ≡ e → h ≡ hand k (a ∷ b ∷ c ∷ d ∷ e ∷ [])
hand_is h k a b c d e p q r s t u = λ i. record { class = p i; r1 = q i; r2 = r i; r3 = s i; r4 = t i; r5 = u i }

six_true : (a b c d e f : Bool) → both (both a b) (both (both c d) (both e f)) ≡ true
    → (a ≡ true) × (b ≡ true) × (c ≡ true) × (d ≡ true) × (e ≡ true) × (f ≡ true)
six_true a b c d e f h =
    let p = both_true (both a b) (both (both c d) (both e f)) h in
    let q = both_true a b p.0 in
    let r = both_true (both c d) (both e f) p.1 in
    let s = both_true c d r.0 in
    let t = both_true e f r.1 in
    (q.0, q.1, s.0, s.1, t.0, t.1)

row_steps : (a b c d e : ℕ) → in_row (a ∷ b ∷ c ∷ d ∷ e ∷ []) ≡ true → (a ≡ b + 1) × (b ≡ c + 1) × (c ≡ d + 1) × (d ≡ e + 1)
unfolding in_row
row_steps a b c d e h =
    let p = both_true (eqb a (b + 1)) (both (eqb b (c + 1)) (both (eqb c (d + 1)) (both (eqb d (e + 1)) true))) h in
    let q = both_true (eqb b (c + 1)) (both (eqb c (d + 1)) (both (eqb d (e + 1)) true)) p.1 in
    let r = both_true (eqb c (d + 1)) (both (eqb d (e + 1)) true) q.1 in
    let s = both_true (eqb d (e + 1)) true r.1 in
    (eqb-true a (b + 1) p.0, eqb-true b (c + 1) q.0, eqb-true c (d + 1) r.0, eqb-true d (e + 1) s.0)

module _ (under : ℕ) (h : Hand) where
  -- a rank held three or four times, and another
  beside_ranks : (r s : ℕ) → 0 < beside_place under r s → Memᴰ r ranks × Memᴰ s (besides (r ∷ []))
  unfolding beside_place
  beside_ranks r s p =
      let t = pick_some (both (falling (r ∷ [])) (both (falling (s ∷ [])) (apart r s))) (under + (12 * up r + less (up s) (up r) + 1)) p in
      let u = both_true (falling (r ∷ [])) (both (falling (s ∷ [])) (apart r s)) t.0 in
      let v = both_true (falling (s ∷ [])) (apart r s) u.1 in
      (one_has [] r u.0 refl, one_has (r ∷ []) s v.0 (apart_none r s [] v.1 refl))

  four_on : h.class ≡ 1 → 0 < four_place under h → Memᴰ h fours
  unfolding four_place
  four_on e p =
      let t = pick_some (both (eqb h.r1 h.r2) (both (eqb h.r1 h.r3) (eqb h.r1 h.r4))) (beside_place under h.r1 h.r5) p in
      let u = both_true (eqb h.r1 h.r2) (both (eqb h.r1 h.r3) (eqb h.r1 h.r4)) t.0 in
      let v = both_true (eqb h.r1 h.r3) (eqb h.r1 h.r4) u.1 in
      let w = beside_ranks h.r1 h.r5 t.1 in
      let q = hand_is h 1 h.r1 h.r1 h.r1 h.r1 h.r5 e refl (sym (eqb-true _ _ u.0)) (sym (eqb-true _ _ v.0)) (sym (eqb-true _ _ v.1)) refl in
      Memᴰ.cast q
      (each_has (λ r. map (λ s. hand 1 (r ∷ r ∷ r ∷ r ∷ s ∷ [])) (besides (r ∷ []))) h.r1 _ ranks w.0
      (Memᴰ.map (λ s. hand 1 (h.r1 ∷ h.r1 ∷ h.r1 ∷ h.r1 ∷ s ∷ [])) w.1))

  full_on : h.class ≡ 2 → 0 < full_place under h → Memᴰ h fulls
  unfolding full_place
  full_on e p =
      let t = pick_some (both (eqb h.r1 h.r2) (both (eqb h.r1 h.r3) (eqb h.r4 h.r5))) (beside_place under h.r1 h.r5) p in
      let u = both_true (eqb h.r1 h.r2) (both (eqb h.r1 h.r3) (eqb h.r4 h.r5)) t.0 in
      let v = both_true (eqb h.r1 h.r3) (eqb h.r4 h.r5) u.1 in
      let w = beside_ranks h.r1 h.r5 t.1 in
      let q = hand_is h 2 h.r1 h.r1 h.r1 h.r5 h.r5 e refl (sym (eqb-true _ _ u.0)) (sym (eqb-true _ _ v.0)) (eqb-true _ _ v.1) refl in
      Memᴰ.cast q
      (each_has (λ r. map (λ s. hand 2 (r ∷ r ∷ r ∷ s ∷ s ∷ [])) (besides (r ∷ []))) h.r1 _ ranks w.0
      (Memᴰ.map (λ s. hand 2 (h.r1 ∷ h.r1 ∷ h.r1 ∷ s ∷ s ∷ [])) w.1))

  three_on : h.class ≡ 5 → 0 < three_place under h → Memᴰ h threes
  unfolding three_place
  three_on e p =
      let a = h.r1 in
      let t = pick_some _ (under + (66 * up a + two_below (less (up h.r4) (up a)) (less (up h.r5) (up a)) + 1)) p in
      let u = six_true (eqb a h.r2) (eqb a h.r3) (falling (a ∷ [])) (falling (h.r4 ∷ h.r5 ∷ [])) (apart a h.r4) (apart a h.r5) t.0 in
      let q = hand_is h 5 a a a h.r4 h.r5 e refl (sym (eqb-true _ _ u.0)) (sym (eqb-true _ _ u.1)) refl refl in
      let i = chosen_has (a ∷ []) (h.r4 ∷ h.r5 ∷ []) u.3 (apart_none a h.r4 [] u.4 refl, (apart_none a h.r5 [] u.5 refl, tt)) in
      Memᴰ.cast q
      (each_has (λ r. map (λ m. hand 5 (r ∷ r ∷ r ∷ m)) (choices 2 (besides (r ∷ [])))) a _ ranks (one_has [] a u.2 refl)
      (Memᴰ.map (λ m. hand 5 (a ∷ a ∷ a ∷ m)) i))

  two_pair_on : h.class ≡ 6 → 0 < two_pair_place under h → Memᴰ h two_pairs
  unfolding two_pair_place
  two_pair_on e p =
      let a = h.r1 in
      let b = h.r3 in
      let c = h.r5 in
      let t = pick_some _ (under + (11 * two_below (up a) (up b) + less (less (up c) (up a)) (up b) + 1)) p in
      let u = six_true (eqb a h.r2) (eqb b h.r4) (falling (a ∷ b ∷ [])) (falling (c ∷ [])) (apart c a) (apart c b) t.0 in
      let q = hand_is h 6 a a b b c e refl (sym (eqb-true _ _ u.0)) refl (sym (eqb-true _ _ u.1)) refl in
      Memᴰ.cast q
      (each_has (λ m. map (λ s. hand 6 (twice m ++ (s ∷ []))) (besides m)) (a ∷ b ∷ []) _ (choices 2 ranks) (chosen_has [] (a ∷ b ∷ []) u.2 (refl, (refl, tt)))
      (Memᴰ.map (λ s. hand 6 (a ∷ a ∷ b ∷ b ∷ s ∷ []))
      (one_has (a ∷ b ∷ []) c u.3 (apart_none_too a c (b ∷ []) u.4 (apart_none_too b c [] u.5 refl)))))

  pair_on : h.class ≡ 7 → 0 < pair_place under h → Memᴰ h pairs
  unfolding pair_place
  pair_on e p =
      let a = h.r1 in
      let m = h.r3 ∷ h.r4 ∷ h.r5 ∷ [] in
      let t = pick_some _ (under + (220 * up a + three_below (less (up h.r3) (up a)) (less (up h.r4) (up a)) (less (up h.r5) (up a)) + 1)) p in
      let u = both_true (eqb a h.r2) (both (both (falling (a ∷ [])) (falling m)) (both (apart a h.r3) (both (apart a h.r4) (apart a h.r5)))) t.0 in
      let v = both_true (both (falling (a ∷ [])) (falling m)) (both (apart a h.r3) (both (apart a h.r4) (apart a h.r5))) u.1 in
      let f = both_true (falling (a ∷ [])) (falling m) v.0 in
      let w = both_true (apart a h.r3) (both (apart a h.r4) (apart a h.r5)) v.1 in
      let x = both_true (apart a h.r4) (apart a h.r5) w.1 in
      let q = hand_is h 7 a a h.r3 h.r4 h.r5 e refl (sym (eqb-true _ _ u.0)) refl refl refl in
      let i = chosen_has (a ∷ []) m f.1 (apart_none a h.r3 [] w.0 refl, (apart_none a h.r4 [] x.0 refl, (apart_none a h.r5 [] x.1 refl, tt))) in
      Memᴰ.cast q
      (each_has (λ r. map (λ n. hand 7 (r ∷ r ∷ n)) (choices 3 (besides (r ∷ [])))) a _ ranks (one_has [] a f.0 refl)
      (Memᴰ.map (λ n. hand 7 (a ∷ a ∷ n)) i))

  -- five odd ranks: of a flush, or of five odd cards
  odd_on : (k : ℕ) → h.class ≡ k → 0 < odd_place under h → Memᴰ h (map (hand k) odds)
  unfolding odd_place
  odd_on k e p =
      let t = pick_other (is_straight (ranks_in h)) _ p in
      let u = pick_some (falling (ranks_in h)) _ t.1 in
      let i = chosen_has [] (ranks_in h) u.0 (refl, (refl, (refl, (refl, (refl, tt))))) in
      Memᴰ.cast (hand_is h k h.r1 h.r2 h.r3 h.r4 h.r5 e refl refl refl refl refl)
      (Memᴰ.map (hand k) (those_has (λ l. not (is_straight l)) (ranks_in h) (choices 5 ranks) (ap not t.0) i))

  -- a row: a straight, or a straight flush
  row_on : (k : ℕ) → h.class ≡ k → 0 < row_place under h → Memᴰ h (map (hand k) rows)
  unfolding row_place in_row
  row_on k e p =
      let t = pick_some (both (in_row (ranks_in h)) (both (leb 5 h.r1) (leb h.r1 14))) (under + (h.r1 - 4)) p in
      let u = both_true (in_row (ranks_in h)) (both (leb 5 h.r1) (leb h.r1 14)) t.0 in
      let v = both_true (leb 5 h.r1) (leb h.r1 14) u.1 in
      let lo : 5 ≤ h.r1 = leb-true 5 h.r1 v.0 in
      let hi : h.r1 ≤ 14 = leb-true h.r1 14 v.1 in
      let w = row_steps h.r1 h.r2 h.r3 h.r4 h.r5 u.0 in
      Memᴰ.cast
      (hand_is h k h.r1 (h.r1 - 1) (h.r1 - 2) (h.r1 - 3) (h.r1 - 4) e refl (omega (arith, w.0)) (omega (arith, w.0, w.1)) (omega (arith, w.0, w.1, w.2)) (omega (arith, w.0, w.1, w.2, w.3)))
      (Memᴰ.map (hand k) (Memᴰ.map row_from (in_list 5 tops refl h.r1 lo (omega (arith, hi)))))

-- one of the classes
on_class : (h : Hand) (c : List Hand) → Memᴰ c classes → Memᴰ h c → Memᴰ h ladder
unfolding ladder
on_class h c i j = each_has (λ m. m) c h classes i j

-- there are nine
pub no_class : (k : ℕ) (h : Hand) → ((j : ℕ) → j < 9 → k ≡ j → ⊥) → reckoned_as k h ≡ 0
unfolding reckoned_as
no_class k h n =
    rw (ne_eqb k 0 (n 0 (omega arith)), ne_eqb k 1 (n 1 (omega arith)), ne_eqb k 2 (n 2 (omega arith)), ne_eqb k 3 (n 3 (omega arith)), ne_eqb k 4 (n 4 (omega arith)), ne_eqb k 5 (n 5 (omega arith)), ne_eqb k 6 (n 6 (omega arith)), ne_eqb k 7 (n 7 (omega arith)), ne_eqb k 8 (n 8 (omega arith)))

pub on_ladder : (h : Hand) → 0 < reckoned h → Memᴰ h ladder
unfolding reckoned_as
on_ladder h p = go h.class refl p
  where
    go : (k : ℕ) → h.class ≡ k → 0 < reckoned_as k h → Memᴰ h ladder
    go zero e q = on_class h straight_flushes (Memᴰ.head refl) (row_on 7452 h 0 e q)
    go (suc zero) e q = on_class h fours (Memᴰ.tail (Memᴰ.head refl)) (four_on 7296 h e q)
    go (suc (suc zero)) e q = on_class h fulls (Memᴰ.tail (Memᴰ.tail (Memᴰ.head refl))) (full_on 7140 h e q)
    go (suc (suc (suc zero))) e q = on_class h flushes (Memᴰ.tail (Memᴰ.tail (Memᴰ.tail (Memᴰ.head refl)))) (odd_on 5863 h 3 e q)
    go (suc (suc (suc (suc zero)))) e q =
        on_class h straights (Memᴰ.tail (Memᴰ.tail (Memᴰ.tail (Memᴰ.tail (Memᴰ.head refl))))) (row_on 5853 h 4 e q)
    go (suc (suc (suc (suc (suc zero))))) e q =
        on_class h threes (Memᴰ.tail (Memᴰ.tail (Memᴰ.tail (Memᴰ.tail (Memᴰ.tail (Memᴰ.head refl)))))) (three_on 4995 h e q)
    go (suc (suc (suc (suc (suc (suc zero)))))) e q =
        on_class h two_pairs (Memᴰ.tail (Memᴰ.tail (Memᴰ.tail (Memᴰ.tail (Memᴰ.tail (Memᴰ.tail (Memᴰ.head refl))))))) (two_pair_on 4137 h e q)
    go (suc (suc (suc (suc (suc (suc (suc zero))))))) e q =
        on_class h pairs (Memᴰ.tail (Memᴰ.tail (Memᴰ.tail (Memᴰ.tail (Memᴰ.tail (Memᴰ.tail (Memᴰ.tail (Memᴰ.head refl)))))))) (pair_on 1277 h e q)
    go (suc (suc (suc (suc (suc (suc (suc (suc zero)))))))) e q =
        on_class h odd_cards (Memᴰ.tail (Memᴰ.tail (Memᴰ.tail (Memᴰ.tail (Memᴰ.tail (Memᴰ.tail (Memᴰ.tail (Memᴰ.tail (Memᴰ.head refl))))))))) (odd_on 0 h 8 e q)
    go (suc (suc (suc (suc (suc (suc (suc (suc (suc k))))))))) e q = absurd (omega (arith, no_class (suc (suc (suc (suc (suc (suc (suc (suc (suc k))))))))) h (λ j l q. omega arith)))
