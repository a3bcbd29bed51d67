-- Empty places above the table's seats change nothing of a hand: the pots, what goes back, the commission, the drop and what each sitting is due are those of the
-- seats alone.
-- So the code's ten places do for any table of two to ten seats. For any number of seats and of places above them.
-- Assumes nothing.
use Prim.Native.Nat.{ℕ, zero, suc, ◌+◌, ◌-◌, ◌*◌, ◌/◌, ◌%◌, ◌^◌, ◌≤◌, ◌<◌, max}
use mathlib.Core.Path.{◌≡◌, refl, sym, ap, ap₂, ◌∙◌, subst}
use mathlib.Core.Bool.{Bool, true, false}
use mathlib.Core.List.{List, [], ◌∷◌, ◌++◌, map, map-append}
use native.Mathlib.Nat.{zero-add, suc-add}
use native.Mathlib.Omega.{arith}
use lib.Dec.{leb, eqb}
use lib.ListN.{length, replicate, length-append}
use Rattle.laws.specs.Lists.{max_of, All}
use Rattle.laws.specs.Tests.{pick, both}
use Rattle.laws.specs.Bits.{ones}
use Rattle.laws.proofs.Bits.{half_below, ones_wide}
use Rattle.laws.proofs.Sums.{map_length, map_same}
use Rattle.pots.specs.Heights.{has, chips_at, live_of, mask_at, contenders, contested, contest, over, back_at, back_of, returned_of}
use Rattle.pots.specs.declared.Pot.{Pot}
use Rattle.pots.specs.declared.Commission.{Commission}
use Rattle.pots.specs.Runs.{join, runs, keyed, pots_of}
use Rattle.pots.specs.Settle.{fee_of, sole, shares_of}
use Rattle.pots.specs.Hand.{rated, best_of, winners_of, plus, won_of, fee_of_hand, drop_of, drop_of_hand, due_of}
use Rattle.pots.proofs.Chips.{has_none, over_same, chips_append}
use Rattle.pots.proofs.Masks.{live_length, mask_lt, pick_nil}
use Rattle.pots.proofs.PotRuns.{pots_all}
use Rattle.pots.proofs.Winners.{top_one}
use Rattle.pots.proofs.Hands.{shares_length, won_length, Manned, manned, pots_manned}
use Rattle.pots.proofs.Wrap.{live_none, shares_wrap}

abbrev zeros : ℕ → List ℕ
zeros k = replicate k 0

-- ---- chips, masks and the largest of a list with zeros behind it
zeros_chips : (k h : ℕ) → 1 ≤ h → chips_at (zeros k) h ≡ 0
unfolding chips_at
zeros_chips zero h p = refl
zeros_chips (suc k) h p = omega (arith, has_none 0 h p, zeros_chips k h p)

chips_wide : (ts : List ℕ) (k h : ℕ) → 1 ≤ h → chips_at (ts ++ zeros k) h ≡ chips_at ts h
chips_wide ts k h p = omega (arith, chips_append ts (zeros k) h, zeros_chips k h p)

mask_wide : (xs : List ℕ) (k h : ℕ) → 1 ≤ h → mask_at (xs ++ zeros k) h ≡ mask_at xs h
unfolding mask_at
mask_wide [] zero h p = refl
mask_wide [] (suc k) h p = omega (arith, has_none 0 h p, mask_wide [] k h p)
mask_wide (x ∷ xs) k h p = ap (λ m. has x h + 2 * m) (mask_wide xs k h p)

max_wide : (xs : List ℕ) (k : ℕ) → max_of (xs ++ zeros k) ≡ max_of xs
unfolding max_of
max_wide [] zero = refl
max_wide [] (suc k) = omega (arith, max_wide [] k)
max_wide (x ∷ xs) k = ap (max x) (max_wide xs k)

live_wide : (ts : List ℕ) (k m : ℕ) → live_of (ts ++ zeros k) m ≡ live_of ts m ++ zeros k
unfolding live_of
live_wide [] zero m = refl
live_wide [] (suc k) m = ap₂ ◌∷◌ (pick_nil (eqb (m % 2) 1)) (live_wide [] k (m / 2))
live_wide (t ∷ ts) k m = ap (λ l. pick (eqb (m % 2) 1) t 0 ∷ l) (live_wide ts k (m / 2))

-- ---- heights and pots
module _ (ts : List ℕ) (k live : ℕ) where
  contested_wide : (h : ℕ) → 1 ≤ h → contested (ts ++ zeros k) live h ≡ contested ts live h
  unfolding contested
  contested_wide h p =
      ap₂ (λ (a b : ℕ). both (leb 2 a) (leb 1 b)) (chips_wide ts k h p) (ap (λ l. chips_at l h) (live_wide ts k live) ∙ chips_wide (live_of ts live) k h p)

  contest_wide : (h : ℕ) → 1 ≤ h → contest (ts ++ zeros k) live h ≡ contest ts live h
  unfolding contest contenders
  contest_wide h p =
      ap₂ (λ (b : Bool) (m : ℕ). pick b m 0) (contested_wide h p) (ap (λ l. mask_at l h) (live_wide ts k live) ∙ mask_wide (live_of ts live) k h p)

runs_same : (f g key kez : ℕ → ℕ) (h n : ℕ) → ((j : ℕ) → h < j → f j ≡ g j) → ((j : ℕ) → h < j → key j ≡ kez j) → runs f key h n ≡ runs g kez h n
unfolding runs
runs_same f g key kez h zero a b = refl
runs_same f g key kez h (suc n) a b =
    ap₂ (λ c i. join c i (runs f key (suc h) n)) (a (suc h) (omega arith)) (b (suc h) (omega arith))
    ∙ ap (join (g (suc h)) (kez (suc h))) (runs_same f g key kez (suc h) n (λ j l. a j (omega arith)) (λ j l. b j (omega arith)))

pub pots_wide : (ts : List ℕ) (k live : ℕ) → pots_of (ts ++ zeros k) live ≡ pots_of ts live
unfolding pots_of
pots_wide ts k live =
    ap (λ n. keyed (runs (chips_at (ts ++ zeros k)) (contest (ts ++ zeros k) live) 0 n)) (max_wide ts k)
    ∙ ap keyed (runs_same (chips_at (ts ++ zeros k)) (chips_at ts) (contest (ts ++ zeros k) live) (contest ts live) 0 (max_of ts) (λ j p. chips_wide ts k j p) (λ j p. contest_wide ts k live j p))

pub back_wide : (ts : List ℕ) (k live : ℕ) → back_of (ts ++ zeros k) live ≡ back_of ts live
unfolding back_of back_at
back_wide ts k live =
    ap (over (λ h. pick (contested (ts ++ zeros k) live h) 0 (chips_at (ts ++ zeros k) h)) 0) (max_wide ts k)
    ∙ over_same (λ h. pick (contested (ts ++ zeros k) live h) 0 (chips_at (ts ++ zeros k) h)) (λ h. pick (contested ts live h) 0 (chips_at ts h)) 0 (max_of ts)
    (λ h p q. ap₂ (λ (b : Bool) (m : ℕ). pick b 0 m) (contested_wide ts k live h p) (chips_wide ts k h p))

returned_wide : (ts : List ℕ) (k live t : ℕ) → returned_of (ts ++ zeros k) live t ≡ returned_of ts live t
unfolding returned_of
returned_wide ts k live t =
    over_same (λ h. pick (contested (ts ++ zeros k) live h) 0 1) (λ h. pick (contested ts live h) 0 1) 0 t (λ h p q. ap (λ b. pick b 0 1) (contested_wide ts k live h p))

returned_zeros : (ts : List ℕ) (live k : ℕ) → map (returned_of ts live) (zeros k) ≡ zeros k
unfolding returned_of over
returned_zeros ts live zero = refl
returned_zeros ts live (suc k) = ap (λ l. 0 ∷ l) (returned_zeros ts live k)

-- ---- the contenders of each pot are among the seats
pub contest_within : (ts : List ℕ) (live h : ℕ) → contest ts live h < 2 ^ length ts
unfolding contest contenders
contest_within ts live h = go (contested ts live h)
  where
    low : mask_at (live_of ts live) h < 2 ^ length ts
    low = mask_lt (live_of ts live) h (length ts) (omega (arith, live_length ts live))

    go : (b : Bool) → pick b (mask_at (live_of ts live) h) 0 < 2 ^ length ts
    go true = low
    go false = omega (arith, low)

pots_within : (ts : List ℕ) (live : ℕ) → All (λ (p : Pot). p.who < 2 ^ length ts) (pots_of ts live)
pots_within ts live = pots_all (λ m. m < 2 ^ length ts) ts live (λ h p. contest_within ts live h)

-- ---- winners
rated_wide : (scores xs : List ℕ) (who : ℕ) → who < 2 ^ length scores → rated (scores ++ xs) who ≡ rated scores who ++ zeros (length xs)
unfolding live_of
rated_wide [] xs who l =
    let z : who ≡ 0 = omega arith in
    ap (live_of (map suc xs)) z ∙ live_none (map suc xs) ∙ ap zeros (map_length suc xs)
rated_wide (s ∷ ss) xs who l = ap (λ r. pick (eqb (who % 2) 1) (suc s) 0 ∷ r) (rated_wide ss xs (who / 2) (half_below who (length ss) l))

module _ (scores xs : List ℕ) (who : ℕ) (low : who < 2 ^ length scores) (some : 0 < ones (length scores) who) where
  best_wide : best_of (scores ++ xs) who ≡ best_of scores who
  best_wide =
      ap (λ r. mask_at r (max_of r)) (rated_wide scores xs who low)
      ∙ ap (mask_at (rated scores who ++ zeros (length xs))) (max_wide (rated scores who) (length xs))
      ∙ mask_wide (rated scores who) (length xs) (max_of (rated scores who)) (top_one scores who some)

  winners_wide : winners_of (scores ++ xs) who ≡ winners_of scores who
  unfolding winners_of
  winners_wide =
      ap₂ (λ (n m : ℕ). pick (eqb n 1) who m) (ap (λ n. ones n who) (length-append scores xs) ∙ ones_wide (length scores) (length xs) who low) best_wide

  winners_low : winners_of scores who < 2 ^ length scores
  unfolding winners_of
  winners_low = go (sole (length scores) who)
    where
      go : (b : Bool) → pick b who (best_of scores who) < 2 ^ length scores
      go true = low
      go false = mask_lt (rated scores who) (max_of (rated scores who)) (length scores) (omega (arith, live_length (map suc scores) who, map_length suc scores))

-- ---- shares and what is due
zeros_add : (n k : ℕ) → zeros (n + k) ≡ zeros n ++ zeros k
zeros_add zero k = ap zeros (zero-add k)
zeros_add (suc n) k = ap zeros (suc-add n k) ∙ ap (λ l. 0 ∷ l) (zeros_add n k)

plus_zeros : (k : ℕ) → plus (zeros k) (zeros k) ≡ zeros k
unfolding plus
plus_zeros zero = refl
plus_zeros (suc k) = ap (λ l. 0 ∷ l) (plus_zeros k)

plus_append : (xs ys us vs : List ℕ) → length xs ≡ length ys → plus (xs ++ us) (ys ++ vs) ≡ plus xs ys ++ plus us vs
unfolding plus
plus_append [] [] us vs e = refl
plus_append [] (y ∷ ys) us vs e = absurd (omega arith)
plus_append (x ∷ xs) [] us vs e = absurd (omega arith)
plus_append (x ∷ xs) (y ∷ ys) us vs e = ap (λ l. (x + y) ∷ l) (plus_append xs ys us vs (omega arith))

module _ (scores xs : List ℕ) (rule : Commission) (puck : ℕ) (p : puck ≤ length scores) where
  won_wide : (left off : ℕ) (ps : List Pot) → Manned (length scores) ps → All (λ (q : Pot). q.who < 2 ^ length scores) ps
      → won_of (scores ++ xs) rule puck left off ps ≡ won_of scores rule puck left off ps ++ zeros (length xs)
  unfolding won_of
  won_wide left off [] m a = ap zeros (length-append scores xs) ∙ zeros_add (length scores) (length xs)
  won_wide left off (q ∷ ps) (manned w m) a =
      let rest = q.amount - fee_of rule left q.amount - off in
      let won = won_of scores rule puck (left - fee_of rule left q.amount) 0 ps in
      let sh = shares_of (length scores) (q.amount - fee_of rule left q.amount - off) (winners_of scores q.who) puck in
      ap₂ (λ (n v : ℕ). plus (shares_of n rest v puck) (won_of (scores ++ xs) rule puck (left - fee_of rule left q.amount) 0 ps)) (length-append scores xs) (winners_wide scores xs q.who a.0 w)
      ∙ ap₂ plus (shares_wrap (length scores) (length xs) rest (winners_of scores q.who) puck (winners_low scores xs q.who a.0 w) p) (won_wide (left - fee_of rule left q.amount) 0 ps m a.1)
      ∙ plus_append sh won (zeros (length xs)) (zeros (length xs)) (shares_length (length scores) _ _ puck ∙ sym (won_length scores rule puck _ 0 ps))
      ∙ ap (λ z. plus sh won ++ z) (plus_zeros (length xs))

-- the commission and the drop are the same, and what each seat's sitting is due, with nothing for the places above
pub fee_wide : (ts : List ℕ) (k live : ℕ) (rule : Commission) → fee_of_hand (ts ++ zeros k) live rule ≡ fee_of_hand ts live rule
fee_wide ts k live rule = rw (pots_wide ts k live)

pub drop_wide : (ts : List ℕ) (k live : ℕ) (rule : Commission) → drop_of_hand (ts ++ zeros k) live rule ≡ drop_of_hand ts live rule
drop_wide ts k live rule = ap (drop_of rule) (pots_wide ts k live)

pub due_wide : (ts scores xs : List ℕ) (live : ℕ) (rule : Commission) (puck : ℕ) → length scores ≡ length ts → puck ≤ length ts
    → due_of (ts ++ zeros (length xs)) live (scores ++ xs) rule puck ≡ due_of ts live scores rule puck ++ zeros (length xs)
due_wide ts scores xs live rule puck n l =
    let k = length xs in
    let d = drop_of_hand ts live rule in
    let won = won_of scores rule puck rule.cap d (pots_of ts live) in
    let back = map (returned_of ts live) ts in
    ap₂ plus
    (ap (λ (ps : List Pot). won_of (scores ++ xs) rule puck rule.cap (drop_of rule ps) ps) (pots_wide ts k live)
    ∙ won_wide scores xs rule puck (omega arith) rule.cap d (pots_of ts live) (subst (λ j. Manned j (pots_of ts live)) (sym n) (pots_manned ts live)) (subst (λ j. All (λ (q : Pot). q.who < 2 ^ j) (pots_of ts live)) (sym n) (pots_within ts live)))
    (map_same (returned_of (ts ++ zeros k) live) (returned_of ts live) (ts ++ zeros k) (returned_wide ts k live) ∙ map-append (returned_of ts live) ts (zeros k) ∙ ap (λ z. back ++ z) (returned_zeros ts live k))
    ∙ plus_append won back (zeros k) (zeros k) (won_length scores rule puck rule.cap d (pots_of ts live) ∙ n ∙ sym (map_length (returned_of ts live) ts))
    ∙ ap (λ z. plus won back ++ z) (plus_zeros k)
