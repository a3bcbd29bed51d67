-- The proposer's promises, for any numbers of rows and sittings.
--     greedy_is            the proposal gives sitting s of row i just what it takes in its turn
--     proposed_accepted    a proposal that the proposer writes is accepted by the checker
--     seventeen_iff        17 exactly if all is within its bounds and something stays unpaid
--     silent               with any answer but 0 the lent list is as it was
-- and the example where the proposer says 17 and another payment exists. Assumes nothing.
use Prim.Native.Nat.{ℕ, zero, suc, ◌+◌, ◌*◌, ◌≤◌, ◌<◌}
use mathlib.Core.Path.{◌≡◌, refl, sym, ap, ◌∙◌}
use mathlib.Core.Bool.{Bool, true, false}
use mathlib.Core.Logic.{⊎_elim}
use mathlib.Core.List.{List, [], ◌∷◌, ◌++◌}
use native.Mathlib.Nat.{suc-mul, mul-le-mul_right, eq-or-lt_of_le, le_of_suc-le-suc}
use native.Mathlib.Omega.{arith}
use lib.Dec.{eqb}
use lib.ListN.{length, get_or, length-append, get_or-append}
use lib.Seq.{get_or-append-add}
use borrow.Author.Tests.{eqb-true, eqb-false, ne_eqb}
use Rattle.laws.specs.Tests.{both, pick}
use Rattle.laws.proofs.Tests.{test}
use Rattle.tray.specs.Counting.{sum_to, all_to, list_to}
use Rattle.tray.specs.Proposal.{given, worth_given, taken_from, judged, accepted, fits, pays_all, holds_all, out_of_bounds}
use Rattle.tray.proofs.Sums.{sum_same, all_at, list_long, list_at}
use Rattle.tray.proofs.Within.{Within, within, without}
use Rattle.tray.proofs.Accepts.{accepts_back}
use Rattle.proposer.specs.Proposer.{served, left_to, takes, unpaid_of, order_of, proposal_to, proposal, all_paid, proposing, list_after, unpaid, written, row_at, place_of, take_row}
use Rattle.proposer.proofs.Sittings.{lefts_long}
use Rattle.proposer.proofs.Worths.{value, served_worth, served_less, value_split}

module _ (ws cs paid : List ℕ) where
  abbrev R : ℕ
  R = length ws

  pub proposal_long : (n : ℕ) → length (proposal_to ws cs paid n) ≡ n * R
  proposal_long zero = let z : 0 * R ≡ 0 = omega arith in sym z
  proposal_long (suc n) =
      let a : length (proposal_to ws cs paid (suc n)) ≡ length (proposal_to ws cs paid n) + length (list_to R (takes ws cs paid n)) = length-append (proposal_to ws cs paid n) (list_to R (takes ws cs paid n)) in
      let b : length (list_to R (takes ws cs paid n)) ≡ R = list_long R (takes ws cs paid n) in
      omega (arith, a, b, proposal_long n, suc-mul n R)

  given_to : (n s i : ℕ) → s < n → i < R → get_or (proposal_to ws cs paid n) (s * R + i) 0 ≡ takes ws cs paid s i
  given_to zero s i a b = absurd (omega arith)
  given_to (suc n) s i a b =
      let f = proposal_to ws cs paid n in
      let g : List ℕ = list_to R (takes ws cs paid n) in
      ⊎_elim
      (λ (e : s ≡ n).
      let q : s * R + i ≡ length f + i = ap (λ k. k * R + i) e ∙ ap (λ k. k + i) (sym (proposal_long n)) in
      ap (λ k. get_or (f ++ g) k 0) q ∙ get_or-append-add f g i 0 ∙ list_at R (takes ws cs paid n) 0 i b ∙ ap (λ k. takes ws cs paid k i) (sym e))
      (λ (o : s < n).
      let m : suc s * R ≤ n * R = mul-le-mul_right R o in
      let l : s * R + i < length f = omega (arith, m, suc-mul s R, b, proposal_long n) in
      get_or-append f g 0 (s * R + i) l ∙ given_to n s i o b)
      (eq-or-lt_of_le (le_of_suc-le-suc a))

  pub greedy_is : (s i : ℕ) → s < length paid → i < R → given R (proposal ws cs paid) s i ≡ takes ws cs paid s i
  unfolding proposal
  greedy_is s i a b = given_to (length paid) s i a b

  -- a row never has more than before
  falls : (s i : ℕ) → get_or (left_to ws cs paid (suc s)) i 0 ≤ get_or (left_to ws cs paid s) i 0
  unfolding served
  falls s i = served_less R ws (order_of ws) (record { left = left_to ws cs paid s; owed = get_or paid s 0 }) i

  -- what the sittings so far took of a row, and what is left of it
  taken_left : (n i : ℕ) → sum_to n (λ s. takes ws cs paid s i) + get_or (left_to ws cs paid n) i 0 ≡ get_or cs i 0
  unfolding takes
  taken_left zero i = omega arith
  taken_left (suc n) i = omega (arith, taken_left n i, falls n i)

  -- what a sitting takes is worth what it is paid, where nothing stays unpaid
  worth_taken : (s : ℕ) → length cs ≡ R → unpaid_of ws cs paid s ≡ 0 → sum_to R (λ i. takes ws cs paid s i * get_or ws i 0) ≡ get_or paid s 0
  unfolding served takes unpaid_of
  worth_taken s e z =
      let l = left_to ws cs paid s in
      let m : value ws (left_to ws cs paid (suc s)) + get_or paid s 0 ≡ value ws l + unpaid_of ws cs paid s = served_worth ws R (order_of ws) (record { left = l; owed = get_or paid s 0 }) (lefts_long ws cs paid s ∙ e) in
      let v : sum_to R (λ i. takes ws cs paid s i * get_or ws i 0) + value ws (left_to ws cs paid (suc s)) ≡ value ws l = value_split R (λ i. get_or (left_to ws cs paid (suc s)) i 0) (λ i. get_or l i 0) (λ i. get_or ws i 0) (falls s) in
      omega (arith, m, v, z)

  both_of : (f t : Bool) → ◌≡◌ {A = ℕ} (pick f (pick t 0 17) 2) 0 → (f ≡ true) × (t ≡ true)
  both_of true true e = (refl, refl)
  both_of true false e = absurd (eqb-false 17 0 refl e)
  both_of false t e = absurd (eqb-false 2 0 refl e)

  all_long : length (proposal ws cs paid) ≡ length paid * R
  unfolding proposal
  all_long = proposal_long (length paid)

  pays : length cs ≡ R → all_paid ws cs paid ≡ true → (s : ℕ) → s < length paid → worth_given ws (proposal ws cs paid) s ≡ get_or paid s 0
  unfolding worth_given all_paid
  pays c a s l =
      sum_same R (λ i. given R (proposal ws cs paid) s i * get_or ws i 0) (λ i. takes ws cs paid s i * get_or ws i 0) (λ i o. ap (λ k. k * get_or ws i 0) (greedy_is s i l o))
      ∙ worth_taken s c (eqb-true (unpaid_of ws cs paid s) 0 (all_at (length paid) (λ k. eqb (unpaid_of ws cs paid k) 0) a s l))

  holds : length cs ≡ R → (i : ℕ) → i < length cs → taken_from (length cs) (length paid) (proposal ws cs paid) i ≤ get_or cs i 0
  unfolding taken_from
  holds c i l =
      let q : sum_to (length paid) (λ s. given (length cs) (proposal ws cs paid) s i) ≡ sum_to (length paid) (λ s. takes ws cs paid s i) =
      sum_same (length paid) (λ s. given (length cs) (proposal ws cs paid) s i) (λ s. takes ws cs paid s i) (λ s o. ap (λ k. given k (proposal ws cs paid) s i) c ∙ greedy_is s i o (omega (arith, l, c))) in
      omega (arith, q, taken_left (length paid) i)

  pub proposed_accepted : (long : ℕ) → proposing ws cs paid long ≡ written → judged ws cs paid (proposal ws cs paid) ≡ accepted
  unfolding proposing
  proposed_accepted long e =
      let t = both_of (fits ws cs (length paid) long) (all_paid ws cs paid) e in
      let h = within ws cs (length paid) long t.0 in
      let m : length (proposal ws cs paid) ≡ length paid * R = all_long in
      accepts_back ws cs paid (proposal ws cs paid)
      (record { rows = h.rows; same = h.same; few = h.few; long = m; least = h.least; worth = h.worth; count = h.count })
      (record { paying = λ s l. pays h.same t.1 s l; holding = λ i l. holds h.same i l })

  -- a test that does not pass at each number fails at one
  true_false : true ≡ false → ⊥
  true_false q = eqb-false 1 0 refl (ap (λ t. pick t 1 0) q)

  fails : (n : ℕ) (f : ℕ → Bool) → all_to n f ≡ false → (s : ℕ) × ((s < n) × (f s ≡ false))
  fails zero f e = absurd (true_false e)
  fails (suc n) f e =
      ⊎_elim
      (λ y. (n, (omega arith, sym (ap (λ t. both t (f n)) y) ∙ e)))
      (λ q. let r = fails n f q in (r.0, (omega (arith, r.1.0), r.1.1)))
      (test (all_to n f))

  -- something stays unpaid
  abbrev pub Unpaid : Type 0
  Unpaid = (s : ℕ) × ((s < length paid) × (unpaid_of ws cs paid s ≡ 0 → ⊥))

  only_17 : (f t : Bool) → ◌≡◌ {A = ℕ} (pick f (pick t 0 17) 2) 17 → (f ≡ true) × (t ≡ false)
  only_17 true true e = absurd (eqb-false 0 17 refl e)
  only_17 true false e = (refl, refl)
  only_17 false t e = absurd (eqb-false 2 17 refl e)

  there : (long : ℕ) → proposing ws cs paid long ≡ unpaid → Within ws cs (length paid) long × Unpaid
  unfolding proposing all_paid
  there long e =
      let t = only_17 (fits ws cs (length paid) long) (all_paid ws cs paid) e in
      let r = fails (length paid) (λ k. eqb (unpaid_of ws cs paid k) 0) t.1 in
      (within ws cs (length paid) long t.0, (r.0, (r.1.0, eqb-false (unpaid_of ws cs paid r.0) 0 r.1.1)))

  back : (long : ℕ) → Within ws cs (length paid) long → Unpaid → proposing ws cs paid long ≡ unpaid
  unfolding proposing all_paid
  back long h u =
      ⊎_elim
      (λ y. absurd (u.1.1 (eqb-true (unpaid_of ws cs paid u.0) 0 (all_at (length paid) (λ k. eqb (unpaid_of ws cs paid k) 0) y u.0 u.1.0))))
      (λ n. ap (λ f. pick f (pick (all_paid ws cs paid) written unpaid) out_of_bounds) (without ws cs (length paid) long h) ∙ ap (λ t. pick t written unpaid) n)
      (test (all_to (length paid) (λ k. eqb (unpaid_of ws cs paid k) 0)))

  pub seventeen_iff : (long : ℕ) → (proposing ws cs paid long ≡ unpaid → Within ws cs (length paid) long × Unpaid) × (Within ws cs (length paid) long × Unpaid → proposing ws cs paid long ≡ unpaid)
  seventeen_iff long = (there long, λ h. back long h.0 h.1)

  pub silent : (code : ℕ) (old : List ℕ) → (code ≡ written → ⊥) → list_after code ws cs paid old ≡ old
  unfolding list_after
  silent code old h = rw (ne_eqb code 0 h) refl

-- worths 4 and 3 for 6: the proposer takes a 4 and is stuck at 2; two 3s pay it
pub stuck : (proposing (4 ∷ 3 ∷ []) (5 ∷ 5 ∷ []) (6 ∷ []) 2 ≡ unpaid) × (judged (4 ∷ 3 ∷ []) (5 ∷ 5 ∷ []) (6 ∷ []) (0 ∷ 2 ∷ []) ≡ accepted)
unfolding proposing fits all_paid unpaid_of served order_of row_at place_of take_row judged pays_all holds_all worth_given taken_from
stuck = (refl, refl)
