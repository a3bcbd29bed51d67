-- Cards packed into one number, the next the last digit; and what the search finds of the few that are packed. Assumes nothing.
use mathlib.Core.Path.{◌≡◌, refl, sym, ap, ap₂, ◌∙◌, subst}
use mathlib.Core.List.{List, [], ◌∷◌, ◌++◌, reverse, reverse_aux}
use Prim.Native.Nat.{ℕ, zero, suc, ◌+◌, ◌-◌, ◌*◌, ◌/◌, ◌%◌, ◌<◌, ◌≤◌}
use native.Mathlib.Nat.{div-add-mod, mod-lt, mul_comm}
use native.Mathlib.Omega.{arith}
use lib.ListN.{length, drop, get_or, length-drop, drop_of_length-le}
use lib.Seq.{drop-cons}
use Rattle.laws.specs.Often.{count, SameNumbers}
use Rattle.cards.specs.Falls.{fall}
use Rattle.cards.specs.Hands.{value_of}
use Rattle.cards.specs.Order.{better_by, keep, best_of, values_from, Placed}
use Rattle.cards.specs.Packed.{digits, hand_in, IsHand}
use Rattle.cards.specs.Searching.{values_left, lows, units, Stands}
use Rattle.cards.specs.declared.Hand.{Hand}
use Rattle.cards.specs.declared.Ranking.{Ranking}
use Rattle.cards.proofs.Choices.{when_all}
use Rattle.cards.proofs.Falls.{fall_same}
use Rattle.cards.proofs.Mixed.{value_same}
use Rattle.cards.proofs.Mixing.{best_same}
use Rattle.cards.proofs.Searched.{found_best}
use Rattle.cards.proofs.Lows.{lows_length, lows_above, lows_digits, lows_rest, count_append}
use Rattle.cards.proofs.Skipped.{left_best}
use Rattle.cards.proofs.Standing.{above_small, units_five}

-- the last digit and those above it
last_digit : (n m x : ℕ) → n ≡ m * 256 + x → x < 256 → (n % 256 ≡ x) × (n / 256 ≡ m)
last_digit n m x e h = (omega arith, omega arith)

-- a card is put before those that are packed
pub packed_turn : (l : List ℕ) (i n r c : ℕ) → 0 < i → i ≤ length l → c ≡ get_or l (i - 1) 0 → c < 256 → r ≡ n * 256 + c → lows (length l - i) n ≡ drop i l → n < units (length l - i)
    → (lows (length l - (i - 1)) r ≡ drop (i - 1) l) × (r < units (length l - (i - 1)))
unfolding lows units
packed_turn l i n r c p le e h er inv small =
    let z : length l - (i - 1) ≡ suc (length l - i) = omega arith in
    let o : suc (i - 1) ≡ i = omega arith in
    let d : drop (i - 1) l ≡ get_or l (i - 1) 0 ∷ drop (suc (i - 1)) l = drop-cons l (i - 1) 0 (omega arith) in
    let t = last_digit r n c er h in (
      ap (λ (k : ℕ). lows k r) z
          ∙ ap₂ (λ (x : ℕ) (m : ℕ). x ∷ lows (length l - i) m) t.0 t.1
          ∙ ap₂ (λ (x : ℕ) (m : List ℕ). x ∷ m) e (inv ∙ ap (λ (k : ℕ). drop k l) (sym o))
          ∙ sym d,
      subst (λ (k : ℕ). r < units k) (sym z) (omega arith),
    )

pub packed_start : (l : List ℕ) → (lows (length l - length l) 0 ≡ drop (length l) l) × (0 < units (length l - length l))
unfolding lows units
packed_start l =
    let z : length l - length l ≡ 0 = omega arith in
    let w : length l ≤ length l = omega arith in
    (ap (λ (k : ℕ). lows k 0) z ∙ sym (drop_of_length-le l w), subst (λ (k : ℕ). 0 < units k) (sym z) (omega arith))

pub units_seven : (k : ℕ) → k ≤ 7 → units k ≤ 72057594037927936
unfolding units
units_seven zero h = omega arith
units_seven (suc zero) h = omega arith
units_seven (suc (suc zero)) h = omega arith
units_seven (suc (suc (suc zero))) h = omega arith
units_seven (suc (suc (suc (suc zero)))) h = omega arith
units_seven (suc (suc (suc (suc (suc zero))))) h = omega arith
units_seven (suc (suc (suc (suc (suc (suc zero)))))) h = omega arith
units_seven (suc (suc (suc (suc (suc (suc (suc zero))))))) h = omega arith
units_seven (suc (suc (suc (suc (suc (suc (suc (suc k)))))))) h = absurd (omega arith)

-- seven digits
pub seven_lows : (r a b c d e f g : ℕ) → a < 256 → b < 256 → c < 256 → d < 256 → e < 256 → f < 256 → g < 256
    → r ≡ (((((a * 256 + b) * 256 + c) * 256 + d) * 256 + e) * 256 + f) * 256 + g → lows 7 r ≡ g ∷ f ∷ e ∷ d ∷ c ∷ b ∷ a ∷ []
unfolding lows
seven_lows r a b c d e f g ha hb hc hd he hf hg h =
    let t1 = last_digit r ((((((a * 256 + b) * 256 + c) * 256 + d) * 256 + e) * 256) + f) g h hg in
    let t2 = last_digit (r / 256) ((((a * 256 + b) * 256 + c) * 256 + d) * 256 + e) f t1.1 hf in
    let t3 = last_digit (r / 256 / 256) (((a * 256 + b) * 256 + c) * 256 + d) e t2.1 he in
    let t4 = last_digit (r / 256 / 256 / 256) ((a * 256 + b) * 256 + c) d t3.1 hd in
    let t5 = last_digit (r / 256 / 256 / 256 / 256) (a * 256 + b) c t4.1 hc in
    let t6 = last_digit (r / 256 / 256 / 256 / 256 / 256) a b t5.1 hb in
    let t7 = last_digit (r / 256 / 256 / 256 / 256 / 256 / 256) 0 a (t6.1 ∙ nought a) ha in
    rw (t1.0, t2.0, t3.0, t4.0, t5.0, t6.0, t7.0)
  where
    nought : (p : ℕ) → p ≡ 0 * 256 + p
    nought p = omega arith

turned_onto : (x : ℕ) (l m : List ℕ) → count x (reverse_aux l m) ≡ count x l + count x m
turned_onto x [] m = omega arith
turned_onto x (y ∷ l) m = let ih = turned_onto x l (y ∷ m) in omega (arith, ih)

same_turned : (l : List ℕ) → SameNumbers (reverse l) l
same_turned l x = omega (arith, turned_onto x l [])

-- the best of seven cards, put from high to low and packed
pub seven_best : (t : Ranking) → Placed t → (l q : List ℕ) (n : ℕ) (r : Hand) → length l ≡ 7 → q ≡ fall l → lows 7 n ≡ reverse q
    → r ≡ keep t (hand_in 9895604649984) (values_left t (lows 0 0) 2 (lows 7 n)) → r ≡ best_of t l
unfolding hand_in digits lows
seven_best t pl l q n r seven down packed er =
    let s : SameNumbers (lows 7 n) l = λ x. ap (count x) packed ∙ same_turned q x ∙ ap (count x) down ∙ fall_same l x in
    found_best t r (lows 7 n) (er ∙ left_best t pl (hand_in 9895604649984) [] [] 2 5 (lows 7 n) (omega arith) (sym (lows_length 7 n)) (λ m. refl))
    ∙ best_same t pl (lows 7 n) l (omega (arith, lows_length 7 n)) s

pub hand_nine : (t : Ranking) (a : ℕ) → IsHand t a → (hand_in a).class ≤ 9
unfolding hand_in
hand_nine t a h = h.class_is

module _ (chosen have unit : ℕ) (un : unit ≡ units have) (some : 0 < unit) where
  pub taken_small : chosen % unit < unit
  taken_small = mod-lt chosen some

  taken_lows : lows have (chosen % unit) ≡ lows have chosen
  taken_lows =
      sym (lows_rest have chosen (chosen % unit) (chosen / unit)
      (sym (div-add-mod chosen unit) ∙ ap (λ (k : ℕ). k + chosen % unit) (mul_comm unit (chosen / unit) ∙ ap (λ (u : ℕ). chosen / unit * u) un))
      (subst (λ (u : ℕ). chosen % unit < u) un taken_small))

  same_taken : (m : List ℕ) → SameNumbers (lows have (chosen % unit) ++ m) (digits have chosen ++ m)
  same_taken m x = omega (arith, count_append x (lows have (chosen % unit)) m, count_append x (digits have chosen) m, ap (count x) taken_lows, lows_digits have chosen x)

  module _ (t : Ranking) (h : Hand) (i rest : ℕ) (l : List ℕ) (le : have ≤ 5) (few : 5 - have ≤ length l - i) (is : lows (length l - i) rest ≡ drop i l) (small : rest < units (length l - i)) where
    pub few-stands : 5 - have < length l - i → Stands rest (length l - i - (5 - have)) (chosen % unit) have unit
    few-stands lt = record {
      some = omega arith;
      most = omega arith;
      unit_is = un;
      taken = taken_small;
      left = subst (λ (k : ℕ). rest < units k) (omega arith) small;
    }

    -- all that are left are taken
    pub all_small : length l - i ≤ 5 - have → rest * unit + chosen % unit < 1099511627776
    all_small ge =
        let m = above_small have (length l - i) rest (chosen % unit) small (subst (λ (u : ℕ). chosen % unit < u) un taken_small) in
        let k : length l - i + have ≡ 5 = omega arith in
        subst (λ (u : ℕ). rest * u + chosen % unit < 1099511627776) (sym un) (omega (arith, m, ap units k, units_five))

    pub all_found : (r : Hand) → length l - i ≤ 5 - have → r ≡ better_by t h (value_of t (digits 5 (rest * unit + chosen % unit)))
        → r ≡ keep t h (values_from t (digits have chosen) (5 - have) (drop i l))
    all_found r ge er =
        let n : ℕ = rest * unit + chosen % unit in
        let k : have + (length l - i) ≡ 5 = omega arith in
        let d : lows 5 n ≡ lows have (chosen % unit) ++ drop i l =
        ap₂ lows (sym k) (ap (λ (u : ℕ). rest * u + chosen % unit) un)
        ∙ lows_above have (length l - i) rest (chosen % unit) (subst (λ (u : ℕ). chosen % unit < u) un taken_small)
        ∙ ap (λ (m : List ℕ). lows have (chosen % unit) ++ m) is in
        let v : value_of t (digits 5 n) ≡ value_of t (digits have chosen ++ drop i l) =
        value_same t (digits 5 n) (lows 5 n) (lows_digits 5 n) ∙ ap (value_of t) d ∙ value_same t (lows have (chosen % unit) ++ drop i l) (digits have chosen ++ drop i l) (same_taken (drop i l)) in
        er ∙ ap (better_by t h) v ∙ sym (when_all t h (digits have chosen) (5 - have) (drop i l) (omega (arith, length-drop i l)))

    -- some are skipped
    pub few-found : Placed t → (r : Hand) → h.class ≤ 9 → 5 - have < length l - i
        → r ≡ keep t h (values_left t (lows have (chosen % unit)) (length l - i - (5 - have)) (lows (5 + (length l - i - (5 - have)) - have) rest))
        → r ≡ keep t h (values_from t (digits have chosen) (5 - have) (drop i l))
    few-found pl r nine lt er =
        let k : 5 + (length l - i - (5 - have)) - have ≡ length l - i = omega arith in
        er ∙ ap (λ (m : List ℕ). keep t h (values_left t (lows have (chosen % unit)) (length l - i - (5 - have)) m)) (ap (λ (j : ℕ). lows j rest) k ∙ is)
        ∙ left_best t pl h (lows have (chosen % unit)) (digits have chosen) (length l - i - (5 - have)) (5 - have) (drop i l) nine (omega (arith, length-drop i l))
        (λ m. value_same t (lows have (chosen % unit) ++ m) (digits have chosen ++ m) (same_taken m))
