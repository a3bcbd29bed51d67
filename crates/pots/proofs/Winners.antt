-- Who wins a pot: a sole contender, whatever its score, and else exactly the contenders whom no contender's score beats. For any number of seats.
-- Assumes nothing.
use Prim.Native.Nat.{ℕ, suc, ◌/◌, ◌^◌, ◌≤◌, ◌<◌}
use mathlib.Core.Path.{◌≡◌, refl, sym, ap, ◌∙◌}
use mathlib.Core.Bool.{Bool, true, false}
use mathlib.Core.List.{List, [], ◌∷◌, map}
use mathlib.Core.Logic.{⊎_elim}
use native.Mathlib.Nat.{two-pow-succ}
use native.Mathlib.Omega.{arith}
use lib.ListN.{length, get_or}
use borrow.Author.Tests.{eqb-true, eq-eqb}
use Rattle.laws.specs.Lists.{max_of}
use Rattle.laws.specs.Tests.{pick}
use Rattle.laws.specs.Bits.{bit_at, ones}
use Rattle.laws.proofs.Bits.{bit_le}
use Rattle.laws.proofs.Sums.{le_or_lt, map_length, map_at, at_most_max, max_at_most}
use Rattle.pots.specs.Heights.{has, chips_at, live_of, mask_at}
use Rattle.pots.specs.Settle.{sole}
use Rattle.pots.specs.Hand.{rated, best_of, winners_of}
use Rattle.pots.proofs.Chips.{has_one, has_none}
use Rattle.pots.proofs.Masks.{live_length, live_kept, live_zero, mask_bit, ones_mask, bit_has}
use Rattle.pots.proofs.Contest.{chips_above, chips_one, chips_down, mask_same}

rated_count : (scores : List ℕ) (who : ℕ) → chips_at (rated scores who) 1 ≡ ones (length scores) who
unfolding chips_at live_of ones
rated_count [] who = refl
rated_count (s ∷ ss) who = omega (arith, bit_has s who, rated_count ss (who / 2))

rated_mask : (scores : List ℕ) (who : ℕ) → who < 2 ^ length scores → mask_at (rated scores who) 1 ≡ who
unfolding mask_at live_of
rated_mask [] who l = omega arith
rated_mask (s ∷ ss) who l =
    let h : who / 2 < 2 ^ length ss = omega (arith, two-pow-succ (length ss)) in
    omega (arith, bit_has s who, rated_mask ss (who / 2) h)

-- ---- the contenders with the best score
module _ (scores : List ℕ) (who : ℕ) (some : 0 < ones (length scores) who) where
  pub top_one : 1 ≤ max_of (rated scores who)
  top_one = ⊎_elim (λ a. a) (λ (a : max_of (rated scores who) < 1). absurd (omega (arith, chips_above (rated scores who) 1 a, rated_count scores who))) (le_or_lt 1 (max_of (rated scores who)))

  -- where someone contends, someone is best
  best_some : 0 < ones (length scores) (best_of scores who)
  best_some =
      let n : length (rated scores who) ≡ length scores = live_length (map suc scores) who ∙ map_length suc scores in
      let c = ones_mask (rated scores who) (max_of (rated scores who)) in
      let d : ones (length (rated scores who)) (best_of scores who) ≡ ones (length scores) (best_of scores who) = ap (λ k. ones k (best_of scores who)) n in
      omega (arith, c, d, chips_one (rated scores who) (max_of (rated scores who)) top_one (omega arith))

  best_bit : (i : ℕ) → bit_at (best_of scores who) i ≡ has (get_or (rated scores who) i 0) (max_of (rated scores who))
  best_bit i = mask_bit (rated scores who) (max_of (rated scores who)) i top_one

  best_in : (i : ℕ) → bit_at who i ≡ 0 → bit_at (best_of scores who) i ≡ 0
  best_in i e = best_bit i ∙ ap (λ x. has x (max_of (rated scores who))) (live_zero (map suc scores) who i e) ∙ has_none 0 (max_of (rated scores who)) top_one

  rated_at : (j : ℕ) → j < length scores → bit_at who j ≡ 1 → get_or (rated scores who) j 0 ≡ suc (get_or scores j 0)
  rated_at j l e = live_kept (map suc scores) who j e ∙ map_at suc scores j l

  best_contends : (i : ℕ) → bit_at (best_of scores who) i ≡ 1 → bit_at who i ≡ 1
  best_contends i w =
      ⊎_elim
      (λ (a : 1 ≤ bit_at who i). omega (arith, bit_le who i))
      (λ (a : bit_at who i < 1). absurd (omega (arith, best_in i (omega arith))))
      (le_or_lt 1 (bit_at who i))

  best_beats : (i j : ℕ) → i < length scores → j < length scores → bit_at (best_of scores who) i ≡ 1 → bit_at who j ≡ 1 → get_or scores j 0 ≤ get_or scores i 0
  best_beats i j l m w e =
      ⊎_elim
      (λ (a : max_of (rated scores who) ≤ get_or (rated scores who) i 0).
      omega (arith, at_most_max (rated scores who) j, rated_at j m e, rated_at i l (best_contends i w)))
      (λ (a : get_or (rated scores who) i 0 < max_of (rated scores who)). absurd (omega (arith, best_bit i, has_none (get_or (rated scores who) i 0) (max_of (rated scores who)) a)))
      (le_or_lt (max_of (rated scores who)) (get_or (rated scores who) i 0))

  unbeaten_best : (i : ℕ) → i < length scores → bit_at who i ≡ 1 → ((j : ℕ) → j < length scores → bit_at who j ≡ 1 → get_or scores j 0 ≤ get_or scores i 0) → bit_at (best_of scores who) i ≡ 1
  unbeaten_best i l e best =
      best_bit i ∙ has_one (get_or (rated scores who) i 0) (max_of (rated scores who)) (max_at_most (rated scores who) (get_or (rated scores who) i 0) each)
    where
      each : (j : ℕ) → j < length (rated scores who) → get_or (rated scores who) j 0 ≤ get_or (rated scores who) i 0
      each j p =
          let n = live_length (map suc scores) who ∙ map_length suc scores in
          ⊎_elim
          (λ (a : 1 ≤ bit_at who j).
          let b : bit_at who j ≡ 1 = omega (arith, bit_le who j) in
          omega (arith, rated_at j (omega (arith, n)) b, rated_at i l e, best j (omega (arith, n)) b))
          (λ (a : bit_at who j < 1). omega (arith, live_zero (map suc scores) who j (omega arith)))
          (le_or_lt 1 (bit_at who j))

-- ---- a sole contender is best, whatever its score
sole_best : (scores : List ℕ) (who : ℕ) → who < 2 ^ length scores → ones (length scores) who ≡ 1 → best_of scores who ≡ who
sole_best scores who l e =
    let m = top_one scores who (omega arith) in
    let c : chips_at (rated scores who) (max_of (rated scores who)) ≡ chips_at (rated scores who) 1 =
    omega (arith, rated_count scores who, chips_one (rated scores who) (max_of (rated scores who)) m (omega arith), chips_down (rated scores who) 1 (max_of (rated scores who)) m) in
    mask_same (rated scores who) 1 (max_of (rated scores who)) m c ∙ rated_mask scores who l

-- so the winners are the best of the contenders, sole or not
pub winners_best : (scores : List ℕ) (who : ℕ) → who < 2 ^ length scores → winners_of scores who ≡ best_of scores who
unfolding winners_of
winners_best scores who l = go (sole (length scores) who) refl
  where
    go : (b : Bool) → sole (length scores) who ≡ b → pick b who (best_of scores who) ≡ best_of scores who
    go true e = sym (sole_best scores who l (eqb-true (ones (length scores) who) 1 e))
    go false e = refl

-- ---- what document 01 says of the winners
-- "A sole contender needs no cards": it wins with any scores
pub winners_sole : (scores : List ℕ) (who : ℕ) → ones (length scores) who ≡ 1 → winners_of scores who ≡ who
unfolding winners_of
winners_sole scores who e = ap (λ b. pick b who (best_of scores who)) (eq-eqb (ones (length scores) who) 1 e)

-- where someone contends, someone wins
pub winners_some : (scores : List ℕ) (who : ℕ) → 0 < ones (length scores) who → 0 < ones (length scores) (winners_of scores who)
unfolding winners_of
winners_some scores who p = go (sole (length scores) who)
  where
    go : (b : Bool) → 0 < ones (length scores) (pick b who (best_of scores who))
    go true = p
    go false = best_some scores who p

-- who does not contend does not win
pub winners_in : (scores : List ℕ) (who i : ℕ) → 0 < ones (length scores) who → bit_at who i ≡ 0 → bit_at (winners_of scores who) i ≡ 0
unfolding winners_of
winners_in scores who i p e = go (sole (length scores) who)
  where
    go : (b : Bool) → bit_at (pick b who (best_of scores who)) i ≡ 0
    go true = e
    go false = best_in scores who p i e

-- the winners of a pot are exactly its contenders whom no contender's score beats
pub winners_are : (scores : List ℕ) (who i : ℕ) → who < 2 ^ length scores → 0 < ones (length scores) who → i < length scores
    → (bit_at (winners_of scores who) i ≡ 1 → (bit_at who i ≡ 1) × ((j : ℕ) → j < length scores → bit_at who j ≡ 1 → get_or scores j 0 ≤ get_or scores i 0))
    × ((bit_at who i ≡ 1) × ((j : ℕ) → j < length scores → bit_at who j ≡ 1 → get_or scores j 0 ≤ get_or scores i 0) → bit_at (winners_of scores who) i ≡ 1)
winners_are scores who i w p l =
    let same = winners_best scores who w in (
      λ e. let b = ap (λ m. bit_at m i) (sym same) ∙ e in (best_contends scores who p i b, λ j m q. best_beats scores who p i j l m b q),
      λ q. ap (λ m. bit_at m i) same ∙ unbeaten_best scores who p i l q.0 q.1,
    )
