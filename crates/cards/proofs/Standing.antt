-- Where the search stands: each step leads on to a place where it may stand, its numbers fit, and what it finds from there on is what it finds in all.
-- For any number of cards to be skipped. Assumes nothing.
use mathlib.Core.Path.{◌≡◌, refl, sym, ap, ap₂, ◌∙◌, subst}
use mathlib.Core.List.{List, [], ◌∷◌, ◌++◌}
use Prim.Native.Nat.{ℕ, zero, suc, ◌+◌, ◌-◌, ◌*◌, ◌/◌, ◌%◌, ◌<◌, ◌≤◌}
use native.Mathlib.Nat.{mul-le-mul_right, suc-mul, mul_assoc, zero-add, suc-add}
use native.Mathlib.Numerals.{add-one}
use native.Mathlib.Omega.{arith}
use Rattle.cards.specs.Hands.{value_of}
use Rattle.cards.specs.Order.{better_by, keep}
use Rattle.cards.specs.Packed.{digits}
use Rattle.cards.specs.Searching.{values_left, lows, units, Stands}
use Rattle.cards.specs.declared.Hand.{Hand}
use Rattle.cards.specs.declared.Ranking.{Ranking}
use Rattle.cards.proofs.Choices.{keep_append}
use Rattle.cards.proofs.Mixed.{value_same}
use Rattle.cards.proofs.Lows.{lows_length, lows_above, lows_one, lows_digits}
use Rattle.cards.proofs.Skipped.{values_short, values_whole, values_next}

units_add : (k j : ℕ) → units (k + j) ≡ units k * units j
unfolding units
units_add zero j = let e : 1 * units j ≡ units j = omega arith in rw (zero-add j) (sym e)
units_add (suc k) j = rw (suc-add k j) (ap (λ (n : ℕ). 256 * n) (units_add k j) ∙ sym (mul_assoc 256 (units k) (units j)))

-- a number of j digits above one of k has k and j digits
pub above_small : (k j r n : ℕ) → r < units j → n < units k → r * units k + n < units (j + k)
above_small k j r n p q =
    let m : suc r * units k ≤ units j * units k = mul-le-mul_right (units k) p in
    let e : suc r * units k ≡ r * units k + units k = suc-mul r (units k) in
    let f : units (j + k) ≡ units j * units k = units_add j k in
    omega arith

units_most : (k : ℕ) → k ≤ 6 → units k ≤ 281474976710656
unfolding units
units_most zero h = omega arith
units_most (suc zero) h = omega arith
units_most (suc (suc zero)) h = omega arith
units_most (suc (suc (suc zero))) h = omega arith
units_most (suc (suc (suc (suc zero)))) h = omega arith
units_most (suc (suc (suc (suc (suc zero))))) h = omega arith
units_most (suc (suc (suc (suc (suc (suc zero)))))) h = omega arith
units_most (suc (suc (suc (suc (suc (suc (suc k))))))) h = absurd (omega arith)

pub units_five : units 5 ≡ 1099511627776
unfolding units
units_five = refl

units_next : (k : ℕ) → units (k + 1) ≡ 256 * units k
unfolding units
units_next k = rw add-one

more_small : (k n : ℕ) → n < units (k + 1) → n / 256 < units k
more_small k n h = omega (arith, units_next k)

module _ (rest spare chosen have unit : ℕ) (st : Stands rest spare chosen have unit) (ne : have ≡ 6 → ⊥) where
  five : have ≤ 5
  five = omega (arith, st.most)

  left_is : 5 + spare - have ≡ (5 + spare - (have + 1)) + 1
  left_is = omega (arith, five, st.some)

  more_left : rest / 256 < units (5 + spare - (have + 1))
  more_left = more_small (5 + spare - (have + 1)) rest (subst (λ (k : ℕ). rest < units k) left_is st.left)

  pub unit_small : unit ≤ 281474976710656
  unit_small = subst (λ (u : ℕ). u ≤ 281474976710656) (sym st.unit_is) (units_most have st.most)

  unit_next : unit * 256 ≡ units (have + 1)
  unit_next = omega (arith, units_next have, st.unit_is)

  pub with_small : rest % 256 * unit + chosen < unit * 256
  with_small =
      let m : suc (rest % 256) * unit ≤ 256 * unit = mul-le-mul_right unit (omega arith) in
      let e : suc (rest % 256) * unit ≡ rest % 256 * unit + unit = suc-mul (rest % 256) unit in
      omega (arith, st.taken)

  -- a card more is taken
  pub stands_with : Stands (rest / 256) spare (rest % 256 * unit + chosen) (have + 1) (unit * 256)
  stands_with = record { some = st.some; most = omega (arith, five); unit_is = unit_next; taken = with_small; left = more_left }

  -- a card is skipped, and not the last of those to be skipped
  pub stands_without : (spare ≡ 1 → ⊥) → Stands (rest / 256) (spare - 1) chosen have unit
  stands_without two = record {
    some = omega (arith, st.some, two);
    most = st.most;
    unit_is = st.unit_is;
    taken = st.taken;
    left = subst (λ (k : ℕ). rest / 256 < units k) (omega (arith, st.some, five)) more_left;
  }

  last_small : spare ≡ 1 → rest / 256 < units (5 - have)
  last_small e = subst (λ (k : ℕ). rest / 256 < units k) (omega arith) more_left

  -- the last is skipped: five are left
  pub five_small : spare ≡ 1 → rest / 256 * unit + chosen < 1099511627776
  five_small e =
      let m : rest / 256 * units have + chosen < units (5 - have + have) = above_small have (5 - have) (rest / 256) chosen (last_small e) (subst (λ (u : ℕ). chosen < u) st.unit_is st.taken) in
      let k : 5 - have + have ≡ 5 = omega (arith, five) in
      subst (λ (u : ℕ). rest / 256 * u + chosen < 1099511627776) (sym st.unit_is)
      (omega (arith, m, ap units k, units_five))

  rest_is : lows (5 + spare - have) rest ≡ rest % 256 ∷ lows (5 + spare - (have + 1)) (rest / 256)
  unfolding lows
  rest_is = ap (λ (k : ℕ). lows k rest) (left_is ∙ add-one (5 + spare - (have + 1)))

  with_is : lows (have + 1) (rest % 256 * unit + chosen) ≡ lows have chosen ++ (rest % 256 ∷ [])
  with_is =
      subst (λ (u : ℕ). lows (have + 1) (rest % 256 * u + chosen) ≡ lows have chosen ++ (rest % 256 ∷ [])) (sym st.unit_is)
      (lows_one have (rest % 256) chosen (subst (λ (u : ℕ). chosen < u) st.unit_is st.taken) (omega arith))

  module _ (t : Ranking) (h : Hand) where
    -- the last is skipped: what the five are worth that are left
    pub last_found : (g : Hand) → spare ≡ 1 → g ≡ better_by t h (value_of t (digits 5 (rest / 256 * unit + chosen)))
        → g ≡ keep t h (values_left t (lows have chosen) (spare - 1) (lows (5 + spare - (have + 1)) (rest / 256)))
    unfolding keep
    last_found g e eg =
        let n : ℕ = rest / 256 * unit + chosen in
        let k : have + (5 - have) ≡ 5 = omega (arith, five) in
        let d : lows 5 n ≡ lows have chosen ++ lows (5 - have) (rest / 256) =
        ap₂ lows (sym k) (ap (λ (u : ℕ). rest / 256 * u + chosen) st.unit_is)
        ∙ lows_above have (5 - have) (rest / 256) chosen (subst (λ (u : ℕ). chosen < u) st.unit_is st.taken) in
        let v : value_of t (digits 5 n) ≡ value_of t (lows have chosen ++ lows (5 - have) (rest / 256)) = value_same t (digits 5 n) (lows 5 n) (lows_digits 5 n) ∙ ap (value_of t) d in
        let z : spare - 1 ≡ 0 = omega arith in
        let y : 5 + spare - (have + 1) ≡ 5 - have = omega arith in
        eg ∙ ap (better_by t h) v
        ∙ sym (ap (keep t h) (ap₂ (λ (i j : ℕ). values_left t (lows have chosen) i (lows j (rest / 256))) z y ∙ values_whole t (lows have chosen) (lows (5 - have) (rest / 256))))

    -- what is found without the next card, and then with it
    pub next-found : (g r : Hand) → g ≡ keep t h (values_left t (lows have chosen) (spare - 1) (lows (5 + spare - (have + 1)) (rest / 256)))
        → r ≡ keep t g (values_left t (lows (have + 1) (rest % 256 * unit + chosen)) spare (lows (5 + spare - (have + 1)) (rest / 256)))
        → r ≡ keep t h (values_left t (lows have chosen) spare (lows (5 + spare - have) rest))
    next-found g r eg er =
        let z : spare ≡ suc (spare - 1) = omega (arith, st.some) in
        let l : List ℕ = lows (5 + spare - (have + 1)) (rest / 256) in
        let s : values_left t (lows have chosen) spare (lows (5 + spare - have) rest) ≡ values_left t (lows have chosen) (spare - 1) l ++ values_left t (lows (have + 1) (rest % 256 * unit + chosen)) spare l =
        ap₂ (λ (k : ℕ) (m : List ℕ). values_left t (lows have chosen) k m) z rest_is
        ∙ values_next t (lows have chosen) (spare - 1) (rest % 256) l
        ∙ ap₂ (λ (k : ℕ) (p : List ℕ). values_left t (lows have chosen) (spare - 1) l ++ values_left t p k l) (sym z) (sym with_is) in
        er ∙ ap (λ (x : Hand). keep t x (values_left t (lows (have + 1) (rest % 256 * unit + chosen)) spare l)) eg
        ∙ sym (keep_append t h (values_left t (lows have chosen) (spare - 1) l) (values_left t (lows (have + 1) (rest % 256 * unit + chosen)) spare l))
        ∙ ap (keep t h) (sym s)

    -- what is found without the next card, as the search itself says it
    pub without-found : (g : Hand) → g ≡ keep t h (values_left t (lows have chosen) (spare - 1) (lows (5 + (spare - 1) - have) (rest / 256)))
        → g ≡ keep t h (values_left t (lows have chosen) (spare - 1) (lows (5 + spare - (have + 1)) (rest / 256)))
    without-found g eg =
        let y : 5 + (spare - 1) - have ≡ 5 + spare - (have + 1) = omega (arith, st.some, five) in
        eg ∙ ap (λ (k : ℕ). keep t h (values_left t (lows have chosen) (spare - 1) (lows k (rest / 256)))) y

-- with a sixth card taken nothing more is found
pub six_found : (t : Ranking) (h : Hand) (rest spare chosen have unit : ℕ) → Stands rest spare chosen have unit → have ≡ 6
    → h ≡ keep t h (values_left t (lows have chosen) spare (lows (5 + spare - have) rest))
unfolding keep
six_found t h rest spare chosen have unit st e =
    sym (ap (keep t h) (values_short t (lows have chosen) spare (lows (5 + spare - have) rest) (omega (arith, lows_length (5 + spare - have) rest, st.some))))
