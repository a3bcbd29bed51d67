-- The counting: a card more in the mask of all cards and in the count of its suit; and from the ranks of each suit, how often each rank is held and which ranks a
-- flush has. For seven different cards of the 52. Assumes nothing.
use mathlib.Core.Path.{◌≡◌, refl, sym, ap, ap₂, ◌∙◌, subst}
use mathlib.Core.Bool.{Bool, true, false}
use mathlib.Core.List.{List, [], ◌∷◌, map}
use Prim.Native.Nat.{ℕ, zero, suc, ◌+◌, ◌*◌, ◌/◌, ◌%◌, ◌^◌, ◌<◌, ◌≤◌, min, max}
use native.Mathlib.Nat.{lt_of_lt_of_le, lt_of_le_of_lt, one-mul}
use native.Mathlib.Omega.{arith}
use native.Mathlib.Decide.{dec_lt}
use lib.Dec.{eqb, ltb, leb}
use lib.ListN.{length, get_or}
use lib.Bits.{bit_and, bit_or, and_le_l, or_lt}
use lib.Pow.{pow_mono, shl_exact}
use borrow.Author.Tests.{eqb-true, eq-eqb, ltb-false}
use Rattle.laws.specs.Tests.{one, both, pick}
use Rattle.laws.specs.Bits.{bit_at}
use Rattle.laws.specs.Often.{tally, count}
use Rattle.laws.specs.Some.{some}
use Rattle.laws.proofs.Tests.{both_true}
use Rattle.laws.proofs.Compare.{same_test}
use Rattle.laws.proofs.Often.{one_small, tally_most}
use Rattle.laws.proofs.Bits.{bit_le, bit_zero}
use Rattle.cards.specs.Cards.{rank, suit}
use Rattle.cards.specs.Reading.{any_above, any_twice}
use Rattle.cards.proofs.Falls.{seven_list}
use Rattle.cards.proofs.Patterns.{all_of, each_of}
use Rattle.counts.specs.HandOrder.{passing, held_times, of_suit, flush_ranks, counts_of}
use Rattle.counts.specs.Kept.{ranks_in, shown, Short, place_of, suit_sum, Seven, Sees, Shows}
use Rattle.counts.specs.declared.seen.Seen.{Seen}
use Rattle.counts.specs.declared.masks.Masks.{Masks}
use Rattle.counts.proofs.Digits.{bit_and_law, bit_or_law, bit_pow, bit_high, bit_top, bit_mod, bit_div}
use Rattle.counts.proofs.Passing.{passing_same, passing_none}
use Rattle.counts.proofs.Counting.{suit_count, suit_long}
use Rattle.counts.proofs.Dealt.{or_false, once_each, suit_once, rank_suits, none_higher}
use Rattle.counts.proofs.Masked.{one_bit, test_bit}

-- ---- one card more
pub unseen_is : Sees [] (record { held = 0; suits = 0 })
unfolding suit_sum
unseen_is = record { held = λ i. bit_zero i; suits = refl }

-- one, moved up by n bits
moved_up : (n : ℕ) → n ≤ 63 → 1 * 2 ^ n % 2 ^ 64 ≡ 2 ^ n
moved_up n h = shl_exact {a = 1} 1 n 64 (omega arith) (omega arith) ∙ one-mul (2 ^ n)

pub unit_is : (c : ℕ) → (1 * 2 ^ (c % 4 * 16) % 2 ^ 64 ≡ 2 ^ (suit c * 16)) × (1 * 2 ^ (c % 4 * 16) % 2 ^ 64 ≤ 281474976710656)
unit_is c =
    let e = moved_up (c % 4 * 16) (omega arith) in
    let p : 2 ^ (c % 4 * 16) ≤ 2 ^ 48 = pow_mono {i = c % 4 * 16} {j = 48} (omega arith) in
    (e, subst (λ (n : ℕ). n ≤ 281474976710656) (sym e) p)

pub bit_is : (c : ℕ) → c ≤ 51 → 1 * 2 ^ (c % 4 * 16 + c / 4 + 2) % 2 ^ 64 ≡ 2 ^ place_of c
bit_is c h =
    let e : c % 4 * 16 + c / 4 + 2 ≡ place_of c = omega arith in
    moved_up (c % 4 * 16 + c / 4 + 2) (omega arith) ∙ ap (λ (n : ℕ). 2 ^ n) e

pub see_is : (n : Seen) (c b u : ℕ) → b ≡ 2 ^ place_of c → u ≡ 2 ^ (suit c * 16) → (l : List ℕ) → Sees l n → Sees (c ∷ l) (record { held = bit_or n.held b; suits = n.suits + u })
unfolding suit_sum
see_is n c b u e f l s = record {
  held = λ i. (
      let o : bit_at b i ≡ one (eqb i (place_of c)) = ap (λ (k : ℕ). bit_at k i) e ∙ bit_pow (place_of c) i in
      bit_or_law n.held b i ∙ ap₂ max (s.held i) o ∙ together (count i (map place_of l)) (one (eqb i (place_of c))) (one_small (eqb i (place_of c)))
      );
  suits = omega (arith, s.suits, f);
}
  where
    together : (k o : ℕ) → o ≤ 1 → max (min k 1) o ≡ min (o + k) 1
    together k o h = omega arith

-- ---- the cards of each suit
-- a place is a suit and a rank
place_is : (s r c : ℕ) → r < 16 → c ≤ 51 → eqb (s * 16 + r) (place_of c) ≡ both (eqb s (suit c)) (eqb r (rank c))
place_is s r c h k =
    same_test (eqb (s * 16 + r) (place_of c)) (both (eqb s (suit c)) (eqb r (rank c)))
    (λ e.
    let q : s * 16 + r ≡ place_of c = eqb-true (s * 16 + r) (place_of c) e in
    let a : s ≡ suit c = omega (arith, q) in
    let b : r ≡ rank c = omega (arith, q) in
    ap₂ both (eq-eqb s (suit c) a) (eq-eqb r (rank c) b))
    (λ e. let p = both_true (eqb s (suit c)) (eqb r (rank c)) e in eq-eqb (s * 16 + r) (place_of c) (omega (arith, eqb-true s (suit c) p.0, eqb-true r (rank c) p.1)))

place_tally : (s r : ℕ) (l : List ℕ) → r < 16 → any_above l ≡ false → count (s * 16 + r) (map place_of l) ≡ tally (λ c. both (eqb s (suit c)) (eqb r (rank c))) l
unfolding some
place_tally s r [] h e = refl
place_tally s r (c ∷ l) h e =
    let p = or_false (ltb 51 c) (any_above l) e in
    ap₂ (λ (b : Bool) (n : ℕ). one b + n) (place_is s r c h (ltb-false 51 c p.0)) (place_tally s r l h p.1)

place_count : (s r : ℕ) (l : List ℕ) → r < 16 → any_above l ≡ false → count (s * 16 + r) (map place_of l) ≡ count r (of_suit s l)
place_count s r l h e = place_tally s r l h e ∙ sym (suit_count s r l)

one_of_four : (s : ℕ) → s < 4 → 2 ^ (s * 16) ≡ one (eqb 0 s) + 65536 * one (eqb 1 s) + 4294967296 * one (eqb 2 s) + 281474976710656 * one (eqb 3 s)
one_of_four zero h = refl
one_of_four (suc zero) h = refl
one_of_four (suc (suc zero)) h = refl
one_of_four (suc (suc (suc zero))) h = refl
one_of_four (suc (suc (suc (suc s)))) h = absurd (omega arith)

-- how many there are of each suit, as digits
suits_spelt : (l : List ℕ)
    → suit_sum l ≡ tally (λ c. eqb 0 (suit c)) l + 65536 * tally (λ c. eqb 1 (suit c)) l + 4294967296 * tally (λ c. eqb 2 (suit c)) l + 281474976710656 * tally (λ c. eqb 3 (suit c)) l
unfolding suit_sum
suits_spelt [] = refl
suits_spelt (c ∷ l) = omega (arith, suits_spelt l, one_of_four (suit c) (omega arith))

-- a mask of sixteen bits without the highest is short
short_lane : (x : ℕ) → x < 65536 → bit_at x 15 ≡ 0 → Short x
short_lane x h e = elim (dec_lt x 32768) [ yes a ↦ a | no a ↦ absurd (omega (arith, e, bit_top x 15 (omega arith) h)) ]

-- ---- how often, from four suits
-- four tests, each 0 or 1, and how many of them pass
abbrev bit_of : List Bool → ℕ → ℕ
bit_of bs k = one (get_or bs k false)

abbrev sum_of : List Bool → ℕ
sum_of bs = bit_of bs 0 + bit_of bs 1 + bit_of bs 2 + bit_of bs 3

right_four : List Bool → Bool
right_four bs =
    let a = bit_of bs 0 in
    let b = bit_of bs 1 in
    let c = bit_of bs 2 in
    let d = bit_of bs 3 in
    both (eqb (max (max a b) (max c d)) (one (leb 1 (sum_of bs))))
    (both (eqb (max (max (min a b) (min c d)) (min (max a b) (max c d))) (one (leb 2 (sum_of bs))))
    (both (eqb (max (min (min a b) (max c d)) (min (min c d) (max a b))) (one (leb 3 (sum_of bs))))
    (eqb (min (min a b) (min c d)) (one (leb 4 (sum_of bs))))))

fours_right : all_of 4 right_four ≡ true
unfolding all_of right_four
fours_right = refl

abbrev Often : ℕ → ℕ → ℕ → ℕ → Type 0
Often w x y z =
    (max (max w x) (max y z) ≡ one (leb 1 (w + x + y + z)))
    × (max (max (min w x) (min y z)) (min (max w x) (max y z)) ≡ one (leb 2 (w + x + y + z)))
    × (max (min (min w x) (max y z)) (min (min y z) (max w x)) ≡ one (leb 3 (w + x + y + z)))
    × (min (min w x) (min y z) ≡ one (leb 4 (w + x + y + z)))

module _ (a b c d : ℕ) (p : a ≤ 1) (q : b ≤ 1) (r : c ≤ 1) (s : d ≤ 1) where
  often : Often a b c d
  unfolding right_four
  often =
      let t = both_true _ _ (each_of 4 right_four fours_right (eqb a 1 ∷ eqb b 1 ∷ eqb c 1 ∷ eqb d 1 ∷ []) refl) in
      let u = both_true _ _ t.1 in
      let v = both_true _ _ u.1 in
      let o : Often (one (eqb a 1)) (one (eqb b 1)) (one (eqb c 1)) (one (eqb d 1)) = (eqb-true _ _ t.0, eqb-true _ _ u.0, eqb-true _ _ v.0, eqb-true _ _ v.1) in
      subst (λ (w : ℕ). Often w b c d) (one_bit a p)
      (subst (λ (x : ℕ). Often (one (eqb a 1)) x c d) (one_bit b q)
      (subst (λ (y : ℕ). Often (one (eqb a 1)) (one (eqb b 1)) y d) (one_bit c r)
      (subst (λ (z : ℕ). Often (one (eqb a 1)) (one (eqb b 1)) (one (eqb c 1)) z) (one_bit d s) o)))

-- ---- the masks
pub ranks_none : ranks_in 0 ≡ []
unfolding ranks_in
ranks_none = passing_none 15 (λ r. eqb (bit_at 0 r) 1) (λ i h. ap (λ (b : ℕ). eqb b 1) (bit_zero i))

none_held : held_times 1 [] ≡ []
unfolding held_times passing
none_held = refl

-- a mask whose bits say which ranks are held k times
held_mask : (k m : ℕ) (rs : List ℕ) → ((r : ℕ) → bit_at m r ≡ one (leb k (count r rs))) → ranks_in m ≡ held_times k rs
unfolding ranks_in held_times
held_mask k m rs h = passing_same 15 (λ r. eqb (bit_at m r) 1) (λ r. leb k (count r rs)) (λ r lt. test_bit (leb k (count r rs)) (bit_at m r) (h r))

leb_one : (x : ℕ) → x ≤ 1 → x ≡ one (leb 1 x)
leb_one zero h = refl
leb_one (suc zero) h = refl
leb_one (suc (suc x)) h = absurd (omega arith)

pick_mask : (b : Bool) (x y : ℕ) (p q : List ℕ) → ranks_in x ≡ held_times 1 p → ranks_in y ≡ held_times 1 q → ranks_in (pick b x y) ≡ held_times 1 (pick b p q)
pick_mask true x y p q e f = e
pick_mask false x y p q e f = f

pick_short : (b : Bool) (x y : ℕ) → Short x → Short y → Short (pick b x y)
pick_short true x y h k = h
pick_short false x y h k = k

module _ (l : List ℕ) (n : Seen) (s : Sees l n) (v : Seven l) (fits : n.held < 18446744073709551616) where
  abbrev rs : List ℕ
  rs = map rank l

  abbrev a : ℕ
  a = n.held % 65536

  abbrev b : ℕ
  b = n.held / 65536 % 65536

  abbrev c : ℕ
  c = n.held / 4294967296 % 65536

  abbrev d : ℕ
  d = n.held / 281474976710656

  -- a part of the mask of all cards has the ranks of a suit
  lane_bit : (k x : ℕ) → k < 4 → x < 65536 → ((r : ℕ) → r < 16 → bit_at x r ≡ bit_at n.held (k * 16 + r)) → (r : ℕ) → bit_at x r ≡ count r (of_suit k l)
  lane_bit k x h lt same r = elim (dec_lt r 16) [
    | yes g ↦
        let e : bit_at x r ≡ min (count r (of_suit k l)) 1 = same r g ∙ s.held (k * 16 + r) ∙ ap (λ (m : ℕ). min m 1) (place_count k r l g v.low) in
        omega (arith, e, suit_once k r l h (once_each l v.apart))
    | no g ↦ bit_high x r (lt_of_lt_of_le lt (pow_mono {i = 16} (omega arith))) ∙ sym (none_higher k r l v.low (omega arith))
  ]

  a_bit : (r : ℕ) → bit_at a r ≡ count r (of_suit 0 l)
  a_bit = lane_bit 0 a (omega arith) (omega arith) (λ r h. (let e : r ≡ 0 * 16 + r = omega arith in bit_mod 16 n.held r h ∙ ap (bit_at n.held) e))

  b_bit : (r : ℕ) → bit_at b r ≡ count r (of_suit 1 l)
  b_bit = lane_bit 1 b (omega arith) (omega arith) (λ r h. (let e : 16 + r ≡ 1 * 16 + r = omega arith in bit_mod 16 (n.held / 65536) r h ∙ bit_div 16 n.held r ∙ ap (bit_at n.held) e))

  c_bit : (r : ℕ) → bit_at c r ≡ count r (of_suit 2 l)
  c_bit = lane_bit 2 c (omega arith) (omega arith) (λ r h. (let e : 32 + r ≡ 2 * 16 + r = omega arith in bit_mod 16 (n.held / 4294967296) r h ∙ bit_div 32 n.held r ∙ ap (bit_at n.held) e))

  d_bit : (r : ℕ) → bit_at d r ≡ count r (of_suit 3 l)
  d_bit = lane_bit 3 d (omega arith) (omega arith) (λ r h. (let e : 48 + r ≡ 3 * 16 + r = omega arith in bit_div 48 n.held r ∙ ap (bit_at n.held) e))

  lane_short : (k x : ℕ) → x < 65536 → ((r : ℕ) → bit_at x r ≡ count r (of_suit k l)) → Short x
  lane_short k x h e = short_lane x h (e 15 ∙ none_higher k 15 l v.low (omega arith))

  a_short : Short a
  a_short = lane_short 0 a (omega arith) a_bit

  b_short : Short b
  b_short = lane_short 1 b (omega arith) b_bit

  c_short : Short c
  c_short = lane_short 2 c (omega arith) c_bit

  d_short : Short d
  d_short = lane_short 3 d (omega arith) d_bit

  -- ---- how often each rank is held
  all_four : (r : ℕ) → bit_at a r + bit_at b r + bit_at c r + bit_at d r ≡ count r rs
  all_four r = omega (arith, a_bit r, b_bit r, c_bit r, d_bit r, rank_suits r l)

  four : (r : ℕ) → Often (bit_at a r) (bit_at b r) (bit_at c r) (bit_at d r)
  four r = often (bit_at a r) (bit_at b r) (bit_at c r) (bit_at d r) (bit_le a r) (bit_le b r) (bit_le c r) (bit_le d r)

  once_bit : (r : ℕ) → bit_at (bit_or (bit_or a b) (bit_or c d)) r ≡ one (leb 1 (count r rs))
  once_bit r = bit_or_law (bit_or a b) (bit_or c d) r ∙ ap₂ max (bit_or_law a b r) (bit_or_law c d r) ∙ (four r).0 ∙ ap (λ (k : ℕ). one (leb 1 k)) (all_four r)

  twice_bit : (r : ℕ) → bit_at (bit_or (bit_or (bit_and a b) (bit_and c d)) (bit_and (bit_or a b) (bit_or c d))) r ≡ one (leb 2 (count r rs))
  twice_bit r =
      bit_or_law (bit_or (bit_and a b) (bit_and c d)) (bit_and (bit_or a b) (bit_or c d)) r
      ∙ ap₂ max (bit_or_law (bit_and a b) (bit_and c d) r ∙ ap₂ max (bit_and_law a b r) (bit_and_law c d r)) (bit_and_law (bit_or a b) (bit_or c d) r ∙ ap₂ min (bit_or_law a b r) (bit_or_law c d r))
      ∙ (four r).1
      ∙ ap (λ (k : ℕ). one (leb 2 k)) (all_four r)

  thrice_bit : (r : ℕ) → bit_at (bit_or (bit_and (bit_and a b) (bit_or c d)) (bit_and (bit_and c d) (bit_or a b))) r ≡ one (leb 3 (count r rs))
  thrice_bit r =
      bit_or_law (bit_and (bit_and a b) (bit_or c d)) (bit_and (bit_and c d) (bit_or a b)) r
      ∙ ap₂ max (bit_and_law (bit_and a b) (bit_or c d) r ∙ ap₂ min (bit_and_law a b r) (bit_or_law c d r)) (bit_and_law (bit_and c d) (bit_or a b) r ∙ ap₂ min (bit_and_law c d r) (bit_or_law a b r))
      ∙ (four r).2
      ∙ ap (λ (k : ℕ). one (leb 3 k)) (all_four r)

  fourfold_bit : (r : ℕ) → bit_at (bit_and (bit_and a b) (bit_and c d)) r ≡ one (leb 4 (count r rs))
  fourfold_bit r = bit_and_law (bit_and a b) (bit_and c d) r ∙ ap₂ min (bit_and_law a b r) (bit_and_law c d r) ∙ (four r).3 ∙ ap (λ (k : ℕ). one (leb 4 k)) (all_four r)

  -- ---- the flush
  suit_mask : (k x : ℕ) → k < 4 → ((r : ℕ) → bit_at x r ≡ count r (of_suit k l)) → ranks_in x ≡ held_times 1 (of_suit k l)
  suit_mask k x h e = held_mask 1 x (of_suit k l) (λ r. e r ∙ leb_one (count r (of_suit k l)) (suit_once k r l h (once_each l v.apart)))

  few : (k : ℕ) → tally (λ e. eqb k (suit e)) l ≤ 7
  few k = omega (arith, tally_most (λ e. eqb k (suit e)) l, v.long)

  abbrev flushed : ℕ
  flushed =
      pick (leb 5 (n.suits % 65536)) a
      (pick (leb 5 (n.suits / 65536 % 65536)) b (pick (leb 5 (n.suits / 4294967296 % 65536)) c (pick (leb 5 (n.suits / 281474976710656)) d 0)))

  flush_is : ranks_in flushed ≡ held_times 1 (flush_ranks l)
  unfolding flush_ranks
  flush_is =
      let t = suits_spelt l in
      let u = s.suits in
      let f0 = few 0 in
      let f1 = few 1 in
      let f2 = few 2 in
      let f3 = few 3 in
      let n0 : n.suits % 65536 ≡ length (of_suit 0 l) = omega (arith, suit_long 0 l) in
      let n1 : n.suits / 65536 % 65536 ≡ length (of_suit 1 l) = omega (arith, suit_long 1 l) in
      let n2 : n.suits / 4294967296 % 65536 ≡ length (of_suit 2 l) = omega (arith, suit_long 2 l) in
      let n3 : n.suits / 281474976710656 ≡ length (of_suit 3 l) = omega (arith, suit_long 3 l) in
      ap₂ (λ (i j : ℕ). ranks_in (pick (leb 5 i) a (pick (leb 5 j) b (pick (leb 5 (n.suits / 4294967296 % 65536)) c (pick (leb 5 (n.suits / 281474976710656)) d 0))))) n0 n1
      ∙ ap₂ (λ (i j : ℕ). ranks_in (pick (leb 5 (length (of_suit 0 l))) a (pick (leb 5 (length (of_suit 1 l))) b (pick (leb 5 i) c (pick (leb 5 j) d 0))))) n2 n3
      ∙ pick_mask (leb 5 (length (of_suit 0 l))) a _ (of_suit 0 l) _ (suit_mask 0 a (omega arith) a_bit)
      (pick_mask (leb 5 (length (of_suit 1 l))) b _ (of_suit 1 l) _ (suit_mask 1 b (omega arith) b_bit)
      (pick_mask (leb 5 (length (of_suit 2 l))) c _ (of_suit 2 l) _ (suit_mask 2 c (omega arith) c_bit)
      (pick_mask (leb 5 (length (of_suit 3 l))) d 0 (of_suit 3 l) [] (suit_mask 3 d (omega arith) d_bit) (ranks_none ∙ sym none_held))))

  flush_short : Short flushed
  flush_short =
      pick_short (leb 5 (n.suits % 65536)) a _ a_short
      (pick_short (leb 5 (n.suits / 65536 % 65536)) b _ b_short
      (pick_short (leb 5 (n.suits / 4294967296 % 65536)) c _ c_short (pick_short (leb 5 (n.suits / 281474976710656)) d 0 d_short (omega arith))))

  or_short : (x y : ℕ) → Short x → Short y → Short (bit_or x y)
  or_short x y h k = or_lt 15 x y h k

  and_short : (x y : ℕ) → Short x → Short (bit_and x y)
  and_short x y h = lt_of_le_of_lt (and_le_l x y) h

  pub masks_are : (f : ℕ) → f ≡ flushed
      → Shows l (record {
        flush = f;
        once = bit_or (bit_or a b) (bit_or c d);
        twice = bit_or (bit_or (bit_and a b) (bit_and c d)) (bit_and (bit_or a b) (bit_or c d));
        thrice = bit_or (bit_and (bit_and a b) (bit_or c d)) (bit_and (bit_and c d) (bit_or a b));
        fourfold = bit_and (bit_and a b) (bit_and c d);
      })
  unfolding shown counts_of
  masks_are f e =
      let ab = or_short a b a_short b_short in
      let cd = or_short c d c_short d_short in
      let flush-of : ranks_in f ≡ held_times 1 (flush_ranks l) = ap ranks_in e ∙ flush_is in
      record {
        are = λ i. record {
          flush = flush-of i;
          once = held_mask 1 (bit_or (bit_or a b) (bit_or c d)) rs once_bit i;
          twice = held_mask 2 (bit_or (bit_or (bit_and a b) (bit_and c d)) (bit_and (bit_or a b) (bit_or c d))) rs twice_bit i;
          thrice = held_mask 3 (bit_or (bit_and (bit_and a b) (bit_or c d)) (bit_and (bit_and c d) (bit_or a b))) rs thrice_bit i;
          fourfold = held_mask 4 (bit_and (bit_and a b) (bit_and c d)) rs fourfold_bit i;
        };
        short = record {
          flush_short = subst Short (sym e) flush_short;
          once_short = or_short (bit_or a b) (bit_or c d) ab cd;
          twice_short = or_short (bit_or (bit_and a b) (bit_and c d)) (bit_and (bit_or a b) (bit_or c d)) (or_short (bit_and a b) (bit_and c d) (and_short a b a_short) (and_short c d c_short)) (and_short (bit_or a b) (bit_or c d) ab);
          thrice_short = or_short (bit_and (bit_and a b) (bit_or c d)) (bit_and (bit_and c d) (bit_or a b)) (and_short (bit_and a b) (bit_or c d) (and_short a b a_short)) (and_short (bit_and c d) (bit_or a b) (and_short c d c_short));
          fourfold_short = and_short (bit_and a b) (bit_and c d) (and_short a b a_short);
        };
      }

-- seven cards, one after another
pub seven_shown : (t : List ℕ) (n : Seen) (m : Masks) → length t ≡ 7 → any_above t ≡ false → any_twice t ≡ false
    → Sees (get_or t 0 0 ∷ get_or t 1 0 ∷ get_or t 2 0 ∷ get_or t 3 0 ∷ get_or t 4 0 ∷ get_or t 5 0 ∷ get_or t 6 0 ∷ []) n → ((l : List ℕ) → Sees l n → Seven l → Shows l m) → Shows t m
seven_shown t n m k low apart s h = h t (subst (λ (l : List ℕ). Sees l n) (sym (seven_list 0 t k)) s) (record { long = k; low = low; apart = apart })
