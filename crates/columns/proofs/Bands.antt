-- The pieces of a pot's band make up the pot (`bands_whole`): what each sitting has between the height where the pot below ends and the height up to which its
-- contenders say that it reaches. For any number of sittings and any live ones. Assumes nothing.
use Prim.Native.Nat.{ℕ, zero, suc, ◌+◌, ◌-◌, ◌*◌, ◌/◌, ◌%◌, ◌≤◌, ◌<◌, min}
use mathlib.Core.Bool.{Bool, true, false}
use mathlib.Core.Path.{◌≡◌, refl, ap, subst, ◌∙◌}
use mathlib.Core.List.{List, [], ◌∷◌}
use mathlib.Core.Logic.{⊎_elim}
use native.Mathlib.Omega.{arith}
use lib.Dec.{eqb}
use Rattle.laws.specs.Lists.{max_of}
use Rattle.laws.specs.Tests.{pick}
use Rattle.laws.proofs.Sums.{le_or_lt}
use Rattle.pots.specs.Heights.{has, chips_at, chips_over, live_of, mask_at}
use Rattle.pots.specs.Levels.{second_of, top_of, next_of}
use Rattle.pots.specs.Runs.{pots_of}
use Rattle.pots.proofs.Chips.{has_one, has_none, chips_cons, chips_none}
use Rattle.pots.proofs.Contest.{chips_above, chips_one, next_drops}
use Rattle.pots.proofs.PotLevels.{pots_from, pots_start, pots_end, pots_next, next_lo, next_top}
use Rattle.columns.specs.Columns.{least_among, reach_of, slab_of, band_of, Banded}

-- ---- the chips of a band

band_chips : (ts : List ℕ) (low n : ℕ) → chips_over ts low n ≡ band_of ts low (low + n)
unfolding band_of slab_of
band_chips [] low n = chips_none low n
band_chips (t ∷ ts) low n = omega (arith, chips_cons t ts low n, band_chips ts low n)

-- ---- up to where the contenders of a height reach

-- the lowest bit of a mask of those who have a chip at a height, and the others
bit_now : (x m : ℕ) → x ≤ 1 → (x + 2 * m) % 2 ≡ x
bit_now x m h = omega arith

bit_rest : (x m : ℕ) → x ≤ 1 → (x + 2 * m) / 2 ≡ m
bit_rest x m h = omega arith

-- a live sitting's column, or nothing
abbrev column : ℕ → ℕ → ℕ
column live t = pick (eqb (live % 2) 1) t 0

-- the lowest so far, behind one column more
abbrev lower : ℕ → ℕ → ℕ → ℕ
lower x t bound = pick (eqb x 1) (min t bound) bound

-- a height's mask is read column by column
least_step : (bound t live h : ℕ) (ts : List ℕ) → has (column live t) h ≤ 1
    → least_among bound (t ∷ ts) (mask_at (live_of (t ∷ ts) live) h) ≡ least_among (lower (has (column live t) h) t bound) ts (mask_at (live_of ts (live / 2)) h)
unfolding least_among mask_at live_of
least_step bound t live h ts o =
    rw (bit_now (has (column live t) h) (mask_at (live_of ts (live / 2)) h) o, bit_rest (has (column live t) h) (mask_at (live_of ts (live / 2)) h) o)

-- who has a chip at a height from 1 is live, and its column is as high
column_live : (live t h : ℕ) → 1 ≤ h → h ≤ column live t → column live t ≡ t
column_live live t h p q = go (eqb (live % 2) 1) q
  where
    go : (b : Bool) → h ≤ pick b t 0 → pick b t 0 ≡ t
    go true w = refl
    go false w = absurd (omega arith)

least_bound : (ts : List ℕ) (bound who : ℕ) → least_among bound ts who ≤ bound
unfolding least_among
least_bound [] bound who = omega arith
least_bound (t ∷ ts) bound who = go (eqb (who % 2) 1) (λ b. least_bound ts b (who / 2))
  where
    go : (b : Bool) → ((k : ℕ) → least_among k ts (who / 2) ≤ k) → least_among (pick b (min t bound) bound) ts (who / 2) ≤ bound
    go true f = omega (arith, f (min t bound))
    go false f = f bound

-- every contender of a height reaches it
least_high : (ts : List ℕ) (bound live h : ℕ) → 1 ≤ h → h ≤ bound → h ≤ least_among bound ts (mask_at (live_of ts live) h)
unfolding least_among
least_high [] bound live h p q = q
least_high (t ∷ ts) bound live h p q =
    ⊎_elim
    (λ (a : h ≤ column live t).
    let o : has (column live t) h ≡ 1 = has_one (column live t) h a in
    let e : lower (has (column live t) h) t bound ≡ min t bound = rw o in
    let w : h ≤ t = omega (arith, column_live live t h p a) in
    rw (least_step bound t live h ts (omega (arith, o)), e) (least_high ts (min t bound) (live / 2) h p (omega arith)))
    (λ (a : column live t < h).
    let o : has (column live t) h ≡ 0 = has_none (column live t) h a in
    let e : lower (has (column live t) h) t bound ≡ bound = rw o in
    rw (least_step bound t live h ts (omega (arith, o)), e) (least_high ts bound (live / 2) h p q))
    (le_or_lt h (column live t))

-- where fewer live ones have a chip one height above, a contender's last chip lies at the height
least_low : (ts : List ℕ) (bound live h : ℕ) → 1 ≤ h → chips_at (live_of ts live) (suc h) < chips_at (live_of ts live) h → least_among bound ts (mask_at (live_of ts live) h) ≤ h
unfolding chips_at live_of
least_low [] bound live h p q = absurd (omega arith)
least_low (t ∷ ts) bound live h p q =
    ⊎_elim
    (λ (a : h ≤ column live t).
    let o : has (column live t) h ≡ 1 = has_one (column live t) h a in
    let e : lower (has (column live t) h) t bound ≡ min t bound = rw o in
    let s = least_step bound t live h ts (omega (arith, o)) in
    ⊎_elim
    (λ (b : suc h ≤ column live t). rw (s, e) (least_low ts (min t bound) (live / 2) h p (omega (arith, o, has_one (column live t) (suc h) b))))
    (λ (b : column live t < suc h). rw (s, e) (omega (arith, column_live live t h p a, least_bound ts (min t bound) (mask_at (live_of ts (live / 2)) h))))
    (le_or_lt (suc h) (column live t)))
    (λ (a : column live t < h).
    let o : has (column live t) h ≡ 0 = has_none (column live t) h a in
    let e : lower (has (column live t) h) t bound ≡ bound = rw o in
    let n : has (column live t) (suc h) ≡ 0 = has_none (column live t) (suc h) (omega arith) in
    rw (least_step bound t live h ts (omega (arith, o)), e) (least_low ts bound (live / 2) h p (omega (arith, o, n))))
    (le_or_lt h (column live t))

-- ---- a pot reaches to its level

module _ (ts : List ℕ) (live lo hi : ℕ) (below : lo < top_of ts live) (is : next_of (live_of ts live) lo (top_of ts live) ≡ hi) where
  reach_most : reach_of ts (mask_at (live_of ts live) hi) ≤ hi
  unfolding reach_of top_of
  reach_most =
      let n = next_lo ts live lo hi below is in
      let t = next_top ts live lo hi below is in
      ⊎_elim
      (λ (a : second_of ts ≤ hi). omega (arith, least_bound ts (second_of ts) (mask_at (live_of ts live) hi)))
      (λ (a : hi < second_of ts).
      ⊎_elim
      (λ (b : max_of (live_of ts live) ≤ hi).
      least_low ts (second_of ts) live hi (omega arith) (omega (arith, chips_above (live_of ts live) (suc hi) (omega arith), chips_one (live_of ts live) hi (omega arith) (omega arith))))
      (λ (b : hi < max_of (live_of ts live)). least_low ts (second_of ts) live hi (omega arith) (next_drops (live_of ts live) lo (top_of ts live) hi is (omega arith)))
      (le_or_lt (max_of (live_of ts live)) hi))
      (le_or_lt (second_of ts) hi)

  reach_is : reach_of ts (mask_at (live_of ts live) hi) ≡ hi
  unfolding reach_of top_of
  reach_is =
      let n = next_lo ts live lo hi below is in
      let t = next_top ts live lo hi below is in
      omega (arith, reach_most, least_high ts (second_of ts) live hi (omega arith) (omega arith))

  banded_next : Banded ts hi (pots_from ts live hi) → Banded ts lo (pots_from ts live lo)
  banded_next r =
      let n = next_lo ts live lo hi below is in
      let e : lo + (hi - lo) ≡ hi = omega arith in
      let b : chips_over ts lo (hi - lo) ≡ band_of ts lo hi = band_chips ts lo (hi - lo) ∙ ap (band_of ts lo) e in
      rw (pots_next ts live lo hi below is, reach_is) (b, r)

module _ (ts : List ℕ) (live : ℕ) where
  banded_from : (fuel lo : ℕ) → top_of ts live ≤ lo + fuel → Banded ts lo (pots_from ts live lo)
  banded_from zero lo f = rw (pots_end ts live lo (omega arith)) tt
  banded_from (suc fuel) lo f =
      ⊎_elim
      (λ (a : top_of ts live ≤ lo). rw (pots_end ts live lo a) tt)
      (λ (a : lo < top_of ts live).
      let hi = next_of (live_of ts live) lo (top_of ts live) in
      let p = next_lo ts live lo hi a refl in
      banded_next ts live lo hi a refl (banded_from fuel hi (omega arith)))
      (le_or_lt (top_of ts live) lo)

  -- the pots of a hand are their bands
  pub bands_whole : Banded ts 0 (pots_of ts live)
  bands_whole = subst (Banded ts 0) (pots_start ts live) (banded_from (top_of ts live) 0 (omega arith))
