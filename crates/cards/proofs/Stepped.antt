-- What the steps between five ranks, read off one number, tell of a hand: whether the ranks fall, which neighbours are the same, and whether they may be a
-- straight. Assumes nothing.
use mathlib.Core.Path.{◌≡◌, refl, sym, ap, ap₂, ◌∙◌, subst}
use mathlib.Core.Bool.{Bool, true, false, cond}
use mathlib.Core.Logic.{⊎_elim}
use mathlib.Core.List.{List, [], ◌∷◌, map}
use Prim.Native.Nat.{ℕ, ◌+◌, ◌-◌, ◌*◌, ◌/◌, ◌%◌, ◌<◌, ◌≤◌}
use native.Mathlib.Omega.{arith}
use lib.Dec.{eqb}
use lib.ListN.{get_or}
use borrow.Author.Tests.{eqb-true, eqb-false}
use Rattle.laws.specs.Tests.{one}
use Rattle.laws.proofs.Tests.{test, both_true}
use Rattle.cards.specs.Cards.{rank, suit, is_wheel, lowered, in_row, all_alike}
use Rattle.cards.specs.Packed.{digits}
use Rattle.cards.specs.Patterns.{neighbours, binary}
use Rattle.cards.specs.Steps.{ranks_in, suits_in, steps_in, marks_in, gathered, pattern_in, lowest_row}
use Rattle.laws.proofs.Members.{same_list_law}

abbrev spelled : ℕ → ℕ → ℕ → ℕ → ℕ → ℕ
spelled v w x y z = (((v * 256 + w) * 256 + x) * 256 + y) * 256 + z

five_spelled : (v w x y z : ℕ) → z + y * 256 + x * 65536 + (w * 16777216 + v * 4294967296) + 8623620610 ≡ spelled (v + 2) (w + 2) (x + 2) (y + 2) (z + 2)
five_spelled v w x y z = omega arith

-- the digits of five cards
abbrev pub card1 : ℕ → ℕ
card1 n = n / 256 / 256 / 256 / 256 % 256

abbrev pub card2 : ℕ → ℕ
card2 n = n / 256 / 256 / 256 % 256

abbrev pub card3 : ℕ → ℕ
card3 n = n / 256 / 256 % 256

abbrev pub card4 : ℕ → ℕ
card4 n = n / 256 % 256

abbrev pub card5 : ℕ → ℕ
card5 n = n % 256

pub ranks_spelled : (n : ℕ) → ranks_in n ≡ spelled (rank (card1 n)) (rank (card2 n)) (rank (card3 n)) (rank (card4 n)) (rank (card5 n))
unfolding ranks_in
ranks_spelled n =
    let a : n / 17179869184 % 64 ≡ card1 n / 4 = omega arith in
    let b : n / 67108864 % 64 ≡ card2 n / 4 = omega arith in
    let c : n / 262144 % 64 ≡ card3 n / 4 = omega arith in
    let d : n / 1024 % 64 ≡ card4 n / 4 = omega arith in
    let e : n / 4 % 64 ≡ card5 n / 4 = omega arith in
    rw (a, b, c, d, e) (five_spelled (card1 n / 4) (card2 n / 4) (card3 n / 4) (card4 n / 4) (card5 n / 4))

last_mark : (n a s : ℕ) → n ≡ a * 256 + s → s < 256 → (n / 128 % 2 ≡ s / 128) × (n / 256 ≡ a)
last_mark n a s e h = (omega arith, omega arith)

mark_up : (n : ℕ) → (n / 32768 ≡ n / 256 / 128) × (n / 8388608 ≡ n / 256 / 256 / 128) × (n / 2147483648 ≡ n / 256 / 256 / 256 / 128)
mark_up n = (omega arith, omega arith, omega arith)

-- the marks of four digits
pub marks_of : (n p q r s : ℕ) → n ≡ p * 16777216 + q * 65536 + r * 256 + s → p < 256 → q < 256 → r < 256 → s < 256
    → marks_in n ≡ s / 128 + r / 128 * 256 + q / 128 * 65536 + p / 128 * 16777216
unfolding marks_in
marks_of n p q r s e hp hq hr hs =
    let a = last_mark n ((p * 256 + q) * 256 + r) s (e ∙ regroup p q r s) hs in
    let b = last_mark (n / 256) (p * 256 + q) r a.1 hr in
    let c = last_mark (n / 256 / 256) p q b.1 hq in
    let d = last_mark (n / 256 / 256 / 256) 0 p (c.1 ∙ nought p) hp in
    let u = mark_up n in
    rw (u.0, u.1, u.2, a.0, b.0, c.0, d.0)
  where
    regroup : (p q r s : ℕ) → p * 16777216 + q * 65536 + r * 256 + s ≡ ((p * 256 + q) * 256 + r) * 256 + s
    regroup p q r s = omega arith

    nought : (p : ℕ) → p ≡ 0 * 256 + p
    nought p = omega arith

gathers : (a b c d : Bool) → gathered (one d + one c * 256 + one b * 65536 + one a * 16777216) ≡ binary (a ∷ b ∷ c ∷ d ∷ [])
unfolding gathered binary
gathers true true true true = refl
gathers true true true false = refl
gathers true true false true = refl
gathers true true false false = refl
gathers true false true true = refl
gathers true false true false = refl
gathers true false false true = refl
gathers true false false false = refl
gathers false true true true = refl
gathers false true true false = refl
gathers false true false true = refl
gathers false true false false = refl
gathers false false true true = refl
gathers false false true false = refl
gathers false false false true = refl
gathers false false false false = refl

-- of two ranks that fall, a mark where they are the same
level_mark : (v w k : ℕ) → w ≤ v → k + v ≡ 128 + w → k / 128 ≡ one (eqb v w)
level_mark v w k h e =
    ⊎_elim
    (λ (t : eqb v w ≡ true). let s = eqb-true v w t in let o : one (eqb v w) ≡ 1 = ap one t in omega arith)
    (λ (f : eqb v w ≡ false). let s = eqb-false v w f in let o : one (eqb v w) ≡ 0 = ap one f in omega arith)
    (test (eqb v w))

sub_of : (a b c : ℕ) → a ≡ b + c → a - c ≡ b
sub_of a b c e = omega arith

-- a step, with 128 more
step_is : (a b : ℕ) → b < 66 → a < 66 → (128 + a - b + b ≡ 128 + a) × (128 + a - b < 256)
step_is a b p q = (omega arith, omega arith)

halves : (v w x y z : ℕ) → w < 256 → x < 256 → y < 256 → z < 256
    → (spelled v w x y z / 256 ≡ ((v * 256 + w) * 256 + x) * 256 + y) × (spelled v w x y z % 4294967296 ≡ ((w * 256 + x) * 256 + y) * 256 + z)
halves v w x y z hw hx hy hz = (omega arith, omega arith)

differ : (v w x y z p q r s : ℕ) → p + w ≡ 128 + v → q + x ≡ 128 + w → r + y ≡ 128 + x → s + z ≡ 128 + y
    → ((v * 256 + w) * 256 + x) * 256 + y + 2155905152 ≡ p * 16777216 + q * 65536 + r * 256 + s + (((w * 256 + x) * 256 + y) * 256 + z)
differ v w x y z p q r s a b c d = omega arith

four_ones : (p q r s : ℕ) → p ≤ 1 → q ≤ 1 → r ≤ 1 → s ≤ 1 → s + r * 256 + q * 65536 + p * 16777216 ≡ 16843009 → (p ≡ 1) × (q ≡ 1) × (r ≡ 1) × (s ≡ 1)
four_ones p q r s a b c d e = (omega arith, omega arith, omega arith, omega arith)

not_up : (v w p : ℕ) → p + w ≡ 128 + v → p / 128 ≡ 1 → w ≤ v
not_up v w p e h = omega arith

half : (p : ℕ) → p < 256 → p / 128 ≤ 1
half p h = omega arith

turn : (v w p i : ℕ) → p + w ≡ 128 + v → i + v ≡ 128 + w → i + p ≡ 256
turn v w p i e f = omega arith

turned : (p q r s i j k l : ℕ) → i + p ≡ 256 → j + q ≡ 256 → k + r ≡ 256 → l + s ≡ 256
    → 4311810304 ≡ i * 16777216 + j * 65536 + k * 256 + l + (p * 16777216 + q * 65536 + r * 256 + s)
turned p q r s i j k l a b c d = omega arith

up : (v : ℕ) → v < 66 → v < 256
up v h = omega arith

pub ranks_small : (n : ℕ) → (ranks_in n / 256 ≤ 2155905152) × (ranks_in n % 4294967296 ≤ 2155905152)
ranks_small n =
    let h = halves (rank (card1 n)) (rank (card2 n)) (rank (card3 n)) (rank (card4 n)) (rank (card5 n)) (few _) (few _) (few _) (few _) in
    let e = ranks_spelled n in (
      subst (λ (m : ℕ). m ≤ 2155905152) (sym (ap (λ (m : ℕ). m / 256) e ∙ h.0)) (four _ _ _ _ (less _) (less _) (less _) (less _)),
      subst (λ (m : ℕ). m ≤ 2155905152) (sym (ap (λ (m : ℕ). m % 4294967296) e ∙ h.1)) (four _ _ _ _ (less _) (less _) (less _) (less _)),
    )
  where
    few : (c : ℕ) → rank (c % 256) < 256
    few c = omega arith

    less : (c : ℕ) → rank (c % 256) < 66
    less c = omega arith

    four : (p q r s : ℕ) → p < 66 → q < 66 → r < 66 → s < 66 → ((p * 256 + q) * 256 + r) * 256 + s ≤ 2155905152
    four p q r s hp hq hr hs = omega arith

module _ (v w x y z : ℕ) (hv : v < 66) (hw : w < 66) (hx : x < 66) (hy : y < 66) (hz : z < 66) where
  steps_are : steps_in (spelled v w x y z) ≡ (128 + v - w) * 16777216 + (128 + w - x) * 65536 + (128 + x - y) * 256 + (128 + y - z)
  unfolding steps_in
  steps_are =
      let h = halves v w x y z (up w hw) (up x hx) (up y hy) (up z hz) in
      ap₂ (λ (a b : ℕ). a + 2155905152 - b) h.0 h.1
      ∙ sub_of _ _ _ (differ v w x y z (128 + v - w) (128 + w - x) (128 + x - y) (128 + y - z) (step_is v w hw hv).0 (step_is w x hx hw).0 (step_is x y hy hx).0 (step_is y z hz hy).0)

  -- where every step has its mark the ranks fall
  pub marks_fall : marks_in (steps_in (spelled v w x y z)) ≡ 16843009 → (w ≤ v) × (x ≤ w) × (y ≤ x) × (z ≤ y)
  marks_fall e =
      let a = step_is v w hw hv in
      let b = step_is w x hx hw in
      let c = step_is x y hy hx in
      let d = step_is y z hz hy in
      let m = four_ones ((128 + v - w) / 128) ((128 + w - x) / 128) ((128 + x - y) / 128) ((128 + y - z) / 128) (half _ a.1) (half _ b.1) (half _ c.1) (half _ d.1)
      (sym (marks_of (steps_in (spelled v w x y z)) (128 + v - w) (128 + w - x) (128 + x - y) (128 + y - z) steps_are a.1 b.1 c.1 d.1) ∙ e) in
      (not_up v w _ a.0 m.0, not_up w x _ b.0 m.1, not_up x y _ c.0 m.2, not_up y z _ d.0 m.3)

  -- and the pattern of those that are the same is read off
  pub pattern_is : w ≤ v → x ≤ w → y ≤ x → z ≤ y → pattern_in (steps_in (spelled v w x y z)) ≡ binary (neighbours (v ∷ w ∷ x ∷ y ∷ z ∷ []))
  unfolding pattern_in neighbours
  pattern_is a b c d =
      let i = step_is w v hv hw in
      let j = step_is x w hw hx in
      let k = step_is y x hx hy in
      let l = step_is z y hy hz in
      let n : 4311810304 - steps_in (spelled v w x y z) ≡ (128 + w - v) * 16777216 + (128 + x - w) * 65536 + (128 + y - x) * 256 + (128 + z - y) =
      ap (λ (m : ℕ). 4311810304 - m) steps_are
      ∙ sub_of _ _ _ (turned (128 + v - w) (128 + w - x) (128 + x - y) (128 + y - z) (128 + w - v) (128 + x - w) (128 + y - x) (128 + z - y)
      (turn v w _ _ (step_is v w hw hv).0 i.0) (turn w x _ _ (step_is w x hx hw).0 j.0) (turn x y _ _ (step_is x y hy hx).0 k.0) (turn y z _ _ (step_is y z hz hy).0 l.0)) in
      ap gathered
      (marks_of (4311810304 - steps_in (spelled v w x y z)) (128 + w - v) (128 + x - w) (128 + y - x) (128 + z - y) n i.1 j.1 k.1 l.1
      ∙ rw (level_mark v w (128 + w - v) a i.0, level_mark w x (128 + x - w) b j.0, level_mark x y (128 + y - x) c k.0, level_mark y z (128 + z - y) d l.0))
      ∙ gathers (eqb v w) (eqb w x) (eqb x y) (eqb y z)

  -- five ranks that are no straight
  pub no_row : (foot : ℕ) → (steps_in (spelled v w x y z) ≡ 2172748161 → ⊥) → (spelled v w x y z ≡ lowest_row foot → ⊥)
      → (lowered foot (v ∷ w ∷ x ∷ y ∷ z ∷ []) ≡ v ∷ w ∷ x ∷ y ∷ z ∷ []) × (in_row (v ∷ w ∷ x ∷ y ∷ z ∷ []) ≡ false)
  unfolding lowest_row is_wheel lowered in_row
  no_row foot ns nr =
      let wheel : is_wheel foot (v ∷ w ∷ x ∷ y ∷ z ∷ []) ≡ false = ⊎_elim
      (λ (t : is_wheel foot (v ∷ w ∷ x ∷ y ∷ z ∷ []) ≡ true).
      let s = same_list_law (v ∷ w ∷ x ∷ y ∷ z ∷ []) (14 ∷ (foot + 3) ∷ (foot + 2) ∷ (foot + 1) ∷ foot ∷ []) t in
      absurd (nr (lowest (ap (λ (l : List ℕ). get_or l 0 0) s) (ap (λ (l : List ℕ). get_or l 1 0) s) (ap (λ (l : List ℕ). get_or l 2 0) s) (ap (λ (l : List ℕ). get_or l 3 0) s) (ap (λ (l : List ℕ). get_or l 4 0) s))))
      (λ (f : is_wheel foot (v ∷ w ∷ x ∷ y ∷ z ∷ []) ≡ false). f)
      (test (is_wheel foot (v ∷ w ∷ x ∷ y ∷ z ∷ []))) in
      let row : in_row (v ∷ w ∷ x ∷ y ∷ z ∷ []) ≡ false = ⊎_elim
      (λ (t : in_row (v ∷ w ∷ x ∷ y ∷ z ∷ []) ≡ true).
      let a = both_true (eqb v (w + 1)) (in_row (w ∷ x ∷ y ∷ z ∷ [])) t in
      let b = both_true (eqb w (x + 1)) (in_row (x ∷ y ∷ z ∷ [])) a.1 in
      let c = both_true (eqb x (y + 1)) (in_row (y ∷ z ∷ [])) b.1 in
      let d = both_true (eqb y (z + 1)) (in_row (z ∷ [])) c.1 in
      absurd (ns (straight (eqb-true v (w + 1) a.0) (eqb-true w (x + 1) b.0) (eqb-true x (y + 1) c.0) (eqb-true y (z + 1) d.0))))
      (λ (f : in_row (v ∷ w ∷ x ∷ y ∷ z ∷ []) ≡ false). f)
      (test (in_row (v ∷ w ∷ x ∷ y ∷ z ∷ []))) in
      (ap (λ (b : Bool). cond b ((foot + 3) ∷ (foot + 2) ∷ (foot + 1) ∷ foot ∷ (foot - 1) ∷ []) (v ∷ w ∷ x ∷ y ∷ z ∷ [])) wheel, row)
    where
      lowest : v ≡ 14 → w ≡ foot + 3 → x ≡ foot + 2 → y ≡ foot + 1 → z ≡ foot → spelled v w x y z ≡ foot * 16843009 + 60180005120
      lowest a b c d e = omega arith

      one_up : (a b : ℕ) → a ≡ b + 1 → 128 + a - b ≡ 129
      one_up a b e = omega arith

      straight : v ≡ w + 1 → w ≡ x + 1 → x ≡ y + 1 → y ≡ z + 1 → steps_in (spelled v w x y z) ≡ 2172748161
      straight a b c d = steps_are ∙ rw (one_up v w a, one_up w x b, one_up x y c, one_up y z d)

suit_digits : (n : ℕ) → (n % 4 ≡ card5 n % 4) × (n / 256 % 4 ≡ card4 n % 4) × (n / 65536 % 4 ≡ card3 n % 4) × (n / 16777216 % 4 ≡ card2 n % 4)
suit_digits n = (omega arith, omega arith, omega arith, omega arith)

suit_first : (n : ℕ) → (n / 256 / 256 % 4 ≡ card3 n % 4) × (n / 256 / 65536 % 4 ≡ card2 n % 4) × (n / 256 / 16777216 % 4 ≡ card1 n % 4)
suit_first n = (omega arith, omega arith, omega arith)

-- cards of one suit have the suits of the first four where those of the last four stand
pub suits_same : (n : ℕ) → all_alike (map suit (digits 5 n)) ≡ true → suits_in n ≡ suits_in (n / 256)
unfolding all_alike digits suits_in
suits_same n t =
    let a = both_true (eqb (card1 n % 4) (card2 n % 4)) _ t in
    let b = both_true (eqb (card1 n % 4) (card3 n % 4)) _ a.1 in
    let c = both_true (eqb (card1 n % 4) (card4 n % 4)) _ b.1 in
    let d = both_true (eqb (card1 n % 4) (card5 n % 4)) _ c.1 in
    go (eqb-true (card1 n % 4) (card2 n % 4) a.0) (eqb-true (card1 n % 4) (card3 n % 4) b.0) (eqb-true (card1 n % 4) (card4 n % 4) c.0) (eqb-true (card1 n % 4) (card5 n % 4) d.0)
  where
    go : card1 n % 4 ≡ card2 n % 4 → card1 n % 4 ≡ card3 n % 4 → card1 n % 4 ≡ card4 n % 4 → card1 n % 4 ≡ card5 n % 4
        → n % 4 + n / 256 % 4 * 256 + n / 65536 % 4 * 65536 + n / 16777216 % 4 * 16777216
        ≡ n / 256 % 4 + n / 256 / 256 % 4 * 256 + n / 256 / 65536 % 4 * 65536 + n / 256 / 16777216 % 4 * 16777216
    go p q r s =
        let e = suit_digits n in
        let f = suit_first n in
        rw (e.0, e.1, e.2, e.3, f.0, f.1, f.2, ← p, ← q, ← r, ← s)
