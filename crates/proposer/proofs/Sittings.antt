-- The proposer's loop over the sittings, a turn at a time: what each takes is written behind what those before it take. Assumes nothing.
use Prim.Native.Nat.{ℕ, zero, suc, ◌+◌, ◌-◌, ◌*◌, ◌≤◌}
use mathlib.Core.Path.{◌≡◌, refl, sym, ap, ◌∙◌}
use mathlib.Core.Bool.{Bool, true, false}
use mathlib.Core.List.{List, ◌++◌}
use native.Mathlib.Nat.{suc-mul}
use native.Mathlib.Numerals.{add-one}
use native.Mathlib.Omega.{arith}
use lib.ListN.{length, get_or, take}
use lib.Seq.{ext_get_or, length-take-le, take-append-add}
use borrow.Rule.Slice.PartMut.{put_mid}
use Rattle.tray.specs.Counting.{list_to, each_by}
use Rattle.tray.specs.Proposal.{fits}
use Rattle.tray.proofs.Front.{each_long, each_at}
use Rattle.tray.proofs.Sums.{list_long, list_at}
use Rattle.proposer.specs.Proposer.{served, left_to, takes, proposal_to, proposal, unpaid_of, all_paid, proposing, list_after, order_of, row_at, place_of}
use Rattle.proposer.proofs.Steps.{served_long}

pub left_long : (ws left : List ℕ) (paid : ℕ) → length (served ws left paid).left ≡ length left
unfolding served
left_long ws left paid = served_long (length ws) ws (order_of ws) (record { left = left; owed = paid })

pub lefts_long : (ws cs paid : List ℕ) (s : ℕ) → length (left_to ws cs paid s) ≡ length cs
lefts_long ws cs paid zero = refl
lefts_long ws cs paid (suc s) = left_long ws (left_to ws cs paid s) (get_or paid s 0) ∙ lefts_long ws cs paid s

-- what is written of a sitting is what it takes, row by row
pub takes_list : (ws cs paid : List ℕ) (s : ℕ) → length cs ≡ length ws
    → each_by (λ i n. n - get_or (left_to ws cs paid (suc s)) i 0) (left_to ws cs paid s) ≡ list_to (length ws) (takes ws cs paid s)
unfolding takes
takes_list ws cs paid s e =
    let f : ℕ → ℕ → ℕ = λ i n. n - get_or (left_to ws cs paid (suc s)) i 0 in
    let a : length (left_to ws cs paid s) ≡ length ws = lefts_long ws cs paid s ∙ e in
    let l : length (each_by f (left_to ws cs paid s)) ≡ length ws = each_long f (left_to ws cs paid s) ∙ a in
    ext_get_or 0 (each_by f (left_to ws cs paid s)) (list_to (length ws) (takes ws cs paid s)) (l ∙ sym (list_long (length ws) (takes ws cs paid s)))
    (λ i o. each_at 0 f (left_to ws cs paid s) i (omega (arith, o, l, a)) ∙ sym (list_at (length ws) (takes ws cs paid s) 0 i (omega (arith, o, l))))

-- a part written behind the first `at` numbers
pub part_turn : (p part front : List ℕ) (at k n to : ℕ) → at ≤ length p → length part ≡ n → to ≡ at + n → take at p ≡ front → take to (put_mid at k p part) ≡ front ++ part
part_turn p part front at k n to l e t q =
    let a : length (take at p) ≡ at = length-take-le at p l in
    ap (λ j. take j (put_mid at k p part)) (t ∙ ap (λ k. k + n) (sym a) ∙ ap (λ k. length (take at p) + k) (sym e))
    ∙ take-append-add (take at p) (part ++ _) (length part)
    ∙ ap (λ k. take at p ++ k) (part-front part _)
    ∙ ap (λ k. k ++ part) q
  where
    part-front : (xs ys : List ℕ) → take (length xs) (xs ++ ys) ≡ xs
    part-front xs ys = lib.Seq.take-append_seam xs ys

-- a turn of the loop over the sittings
pub sitting_turn : (ws cs paid : List ℕ) (s : ℕ) (left next : List ℕ) (a : ℕ) (rest : ℕ) (part p : List ℕ) (at k to : ℕ)
    → length cs ≡ length ws → at ≤ length p → at ≡ s * length ws → to ≡ (s + 1) * length ws
    → left ≡ left_to ws cs paid s → a ≡ get_or paid s 0 → take at p ≡ proposal_to ws cs paid s
    → rest ≡ (served ws left a).owed → next ≡ (served ws left a).left → part ≡ each_by (λ i n. n - get_or (served ws left a).left i 0) left
    → (next ≡ left_to ws cs paid (s + 1)) × (rest ≡ unpaid_of ws cs paid s) × (take to (put_mid at k p part) ≡ proposal_to ws cs paid (s + 1)) × (length part ≡ length ws)
unfolding unpaid_of
sitting_turn ws cs paid s left next a rest part p at k to ec lp ea et el ep ef er en eq =
    let u : served ws left a ≡ served ws (left_to ws cs paid s) (get_or paid s 0) = ap (λ t. served ws t a) el ∙ ap (λ t. served ws (left_to ws cs paid s) t) ep in
    let w : part ≡ list_to (length ws) (takes ws cs paid s) =
    eq ∙ ap (λ h. each_by (λ i n. n - get_or h.left i 0) left) u ∙ ap (λ t. each_by (λ i n. n - get_or (left_to ws cs paid (suc s)) i 0) t) el ∙ takes_list ws cs paid s ec in
    let m : (s + 1) * length ws ≡ s * length ws + length ws = ap (λ k. k * length ws) (add-one s) ∙ suc-mul s (length ws) in
    let t : to ≡ at + length ws = omega (arith, et, ea, m) in (
      en ∙ ap (λ h. h.left) u ∙ sym (ap (λ k. left_to ws cs paid k) (add-one s)),
      er ∙ ap (λ h. h.owed) u,
      part_turn p part (proposal_to ws cs paid s) at k (length ws) to lp (ap length w ∙ list_long (length ws) (takes ws cs paid s)) t ef
          ∙ ap (λ k. proposal_to ws cs paid s ++ k) w
          ∙ sym (ap (λ k. proposal_to ws cs paid k) (add-one s)),
      ap length w ∙ list_long (length ws) (takes ws cs paid s),
    )

-- the answer, by its two tests
module _ (ws cs paid old : List ℕ) where
  pub proposing_2 : fits ws cs (length paid) (length old) ≡ false → (2 ≡ proposing ws cs paid (length old)) × (old ≡ list_after 2 ws cs paid old)
  unfolding proposing list_after
  proposing_2 e = (rw e refl, refl)

  pub proposing_17 : (t : Bool) → fits ws cs (length paid) (length old) ≡ true → t ≡ all_paid ws cs paid → t ≡ false → (17 ≡ proposing ws cs paid (length old)) × (old ≡ list_after 17 ws cs paid old)
  unfolding proposing list_after
  proposing_17 t e q n = (rw (e, sym q, n) refl, refl)

  pub proposing_0 : (t : Bool) (p new : List ℕ) → fits ws cs (length paid) (length old) ≡ true → t ≡ all_paid ws cs paid → t ≡ true → p ≡ proposal_to ws cs paid (length paid) → new ≡ p
      → (0 ≡ proposing ws cs paid (length old)) × (new ≡ list_after 0 ws cs paid old)
  unfolding proposing list_after proposal
  proposing_0 t p new e q y w n = (rw (e, sym q, y) refl, n ∙ w)

pub order_made : (ws places order : List ℕ) → places ≡ list_to (length ws) (place_of ws) → order ≡ list_to (length places) (row_at places) → order ≡ order_of ws
unfolding order_of
order_made ws places order e q =
    let n : length places ≡ length ws = ap length e ∙ list_long (length ws) (place_of ws) in
    q ∙ ap (λ k. list_to k (row_at places)) n ∙ ap (λ l. list_to (length ws) (row_at l)) e
