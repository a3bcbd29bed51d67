-- What a wager and a fold change of the heights: a wager only what lies between the old total and the new one, a fold no chip. For any number of sittings.
-- Assumes nothing.
use Prim.Native.Nat.{ℕ, zero, suc, ◌+◌, ◌-◌, ◌*◌, ◌/◌, ◌%◌, ◌^◌, ◌≤◌, ◌<◌, zero-le}
use mathlib.Core.Path.{◌≡◌, refl, sym, ap, ap₂, ◌∙◌}
use mathlib.Core.Bool.{Bool, true, false}
use mathlib.Core.List.{List, [], ◌∷◌}
use mathlib.Core.Logic.{◌⊎◌, ⊎_elim}
use native.Mathlib.Nat.{two-pow-succ}
use native.Mathlib.Omega.{arith}
use lib.Dec.{leb, eqb}
use lib.ListN.{length, get_or, set, length-set}
use borrow.Author.Tests.{le-leb, leb-true}
use Rattle.laws.specs.Lists.{max_of}
use Rattle.laws.specs.Tests.{pick, both}
use Rattle.laws.specs.Bits.{bit_at, ones}
use Rattle.laws.proofs.Bits.{bit_room}
use Rattle.pots.specs.Heights.{has, chips_at, live_of, mask_at, contenders, contested, back_of}
use Rattle.pots.specs.Levels.{top_of}
use Rattle.pots.specs.Runs.{pot_sum, pots_of}
use Rattle.pots.proofs.Masks.{live_length, ones_mask}
use Rattle.pots.proofs.Contest.{contested_is, has_one, has_none}
use Rattle.pots.proofs.PotLevels.{pots_and_back}

-- ---- a wager
-- raising one total from a to b changes the chips at no height outside a + 1 to b
has_outside : (a b h : ℕ) → a ≤ b → (h ≤ a) ⊎ (b < h) → has b h ≡ has a h
has_outside a b h l w =
    ⊎_elim (λ (p : h ≤ a). has_one b h (omega arith) ∙ sym (has_one a h p)) (λ (p : b < h). has_none b h p ∙ sym (has_none a h (omega arith))) w

pub raise_outside : (ts : List ℕ) (i b h : ℕ) → get_or ts i 0 ≤ b → (h ≤ get_or ts i 0) ⊎ (b < h) → chips_at (set ts i b) h ≡ chips_at ts h
unfolding chips_at
raise_outside [] i b h l w = refl
raise_outside (t ∷ ts) zero b h l w = ap (λ k. k + chips_at ts h) (has_outside t b h l w)
raise_outside (t ∷ ts) (suc i) b h l w = ap (λ k. has t h + k) (raise_outside ts i b h l w)

-- and inside it adds one chip to each height
pub raise_inside : (ts : List ℕ) (i b h : ℕ) → i < length ts → get_or ts i 0 < h → h ≤ b → chips_at (set ts i b) h ≡ suc (chips_at ts h)
unfolding chips_at
raise_inside [] i b h n l m = absurd (omega arith)
raise_inside (t ∷ ts) zero b h n l m = omega (arith, has_one b h m, has_none t h l)
raise_inside (t ∷ ts) (suc i) b h n l m = omega (arith, raise_inside ts i b h (omega arith) l m)

-- so it changes the contenders at no height outside a + 1 to b, whether that sitting is live or not
pub raise_contenders : (ts : List ℕ) (live i b h : ℕ) → 1 ≤ h → get_or ts i 0 ≤ b → (h ≤ get_or ts i 0) ⊎ (b < h) → contenders (set ts i b) live h ≡ contenders ts live h
unfolding contenders mask_at live_of
raise_contenders [] live i b h p l w = refl
raise_contenders (t ∷ ts) live zero b h p l w = ap (λ k. k + 2 * mask_at (live_of ts (live / 2)) h) (go (eqb (live % 2) 1))
  where
    go : (c : Bool) → has (pick c b 0) h ≡ has (pick c t 0) h
    go true = has_outside t b h l w
    go false = refl
raise_contenders (t ∷ ts) live (suc i) b h p l w = ap (λ k. has (pick (eqb (live % 2) 1) t 0) h + 2 * k) (raise_contenders ts (live / 2) i b h p l w)

-- nor whether a height outside is contested
pub raise_contested : (ts : List ℕ) (live i b h : ℕ) → 1 ≤ h → get_or ts i 0 ≤ b → (h ≤ get_or ts i 0) ⊎ (b < h) → contested (set ts i b) live h ≡ contested ts live h
unfolding contested contenders
raise_contested ts live i b h p l w =
    let m : chips_at (live_of (set ts i b) live) h ≡ chips_at (live_of ts live) h =
    sym (ones_mask (live_of (set ts i b) live) h)
    ∙ ap₂ ones (live_length (set ts i b) live ∙ length-set ts i b ∙ sym (live_length ts live)) (raise_contenders ts live i b h p l w)
    ∙ ones_mask (live_of ts live) h in
    ap₂ (λ (j k : ℕ). both (leb 2 j) (leb 1 k)) (raise_outside ts i b h l w) m

-- ---- a fold clears one bit of the live mask, and puts 0 for that sitting's total among the live ones
pub fold_live : (ts : List ℕ) (live i : ℕ) → bit_at live i ≡ 1 → live_of ts (live - 2 ^ i) ≡ set (live_of ts live) i 0
unfolding live_of
fold_live [] live i e = refl
fold_live (t ∷ ts) live zero e =
    let a : (live - 1) % 2 ≡ 0 = omega arith in
    let b : (live - 1) / 2 ≡ live / 2 = omega arith in
    ap₂ (λ (k m : ℕ). pick (eqb k 1) t 0 ∷ live_of ts m) a b
fold_live (t ∷ ts) live (suc i) e =
    let p = bit_room (live / 2) i e in
    let q = two-pow-succ i in
    let a : (live - 2 ^ suc i) % 2 ≡ live % 2 = omega arith in
    let b : (live - 2 ^ suc i) / 2 ≡ live / 2 - 2 ^ i = omega arith in
    ap₂ (λ (k m : ℕ). pick (eqb k 1) t 0 ∷ live_of ts m) a b ∙ ap (λ l. pick (eqb (live % 2) 1) t 0 ∷ l) (fold_live ts (live / 2) i e)

max_set : (xs : List ℕ) (i : ℕ) → max_of (set xs i 0) ≤ max_of xs
unfolding max_of
max_set [] i = zero-le
max_set (x ∷ xs) zero = omega arith
max_set (x ∷ xs) (suc i) = omega (arith, max_set xs i)

-- it can only lower the top
pub fold_top : (ts : List ℕ) (live i : ℕ) → bit_at live i ≡ 1 → top_of ts (live - 2 ^ i) ≤ top_of ts live
unfolding top_of
fold_top ts live i e = omega (arith, ap max_of (fold_live ts live i e), max_set (live_of ts live) i)

-- so it makes no height contested that was not. (The chips at a height stay: `chips_at` knows nothing of who is live.)
pub fold_contested : (ts : List ℕ) (live i h : ℕ) → 1 ≤ h → bit_at live i ≡ 1 → contested ts (live - 2 ^ i) h ≡ true → contested ts live h ≡ true
fold_contested ts live i h p e c =
    let l = leb-true h (top_of ts (live - 2 ^ i)) (sym (contested_is ts (live - 2 ^ i) h p) ∙ c) in
    contested_is ts live h p ∙ le-leb h (top_of ts live) (omega (arith, fold_top ts live i e))

-- and what was put in stays in the pots and what goes back
pub fold_keeps : (ts : List ℕ) (live i : ℕ) → pot_sum (pots_of ts (live - 2 ^ i)) + back_of ts (live - 2 ^ i) ≡ pot_sum (pots_of ts live) + back_of ts live
fold_keeps ts live i = pots_and_back ts (live - 2 ^ i) ∙ sym (pots_and_back ts live)
