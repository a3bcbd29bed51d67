-- Numbers of at most nine digits: a part of a list, what the proposer takes from small rows, rows after an answer, and the codes. Assumes nothing.
--     take_each, drop_each, append_each    a fact of every place of a list, for a part of it and for two lists joined
--     proposal_small    the proposer takes no more of a row than it holds
--     after_small       rows after an answer
--     judged_small      the checker's code
use Prim.Native.Nat.{ℕ, zero, suc, ◌+◌, ◌-◌, ◌≤◌, ◌<◌, ◌^◌}
use mathlib.Core.Path.{◌≡◌, sym, ap, ◌∙◌, subst}
use mathlib.Core.Bool.{Bool, true, false}
use mathlib.Core.Logic.{⊎_elim}
use mathlib.Core.List.{List, ◌++◌}
use native.Mathlib.Nat.{le_refl, le_trans}
use native.Mathlib.Omega.{arith}
use lib.Dec.{eqb, lit<}
use lib.ListN.{length, get_or, take, drop, get_or-map, get_or-append, get_or-eq_default, length-take}
use lib.Seq.{get_or-take, get_or-drop, get_or-append-add}
use Rattle.laws.specs.Tests.{both, pick}
use Rattle.laws.proofs.Tests.{test}
use Rattle.laws.proofs.Sums.{le_or_lt}
use Rattle.tray.specs.Counting.{list_to}
use Rattle.tray.specs.Proposal.{judged, taken_from, fits, pays_all, holds_all}
use Rattle.tray.proofs.Front.{each_at, each_long}
use Rattle.tray.proofs.Sums.{list_at, list_long}
use Rattle.proposer.specs.Proposer.{proposal, proposal_to, takes, left_to, served, order_of}
use Rattle.proposer.proofs.Worths.{served_less}
use Rattle.rows.specs.declared.Row.{Row}
use Rattle.rows.specs.Rows.{no_row, worths_of, counts_of, lower, lower_all, judged_rows, rows_after}
use Rattle.teller.specs.Keeping.{SmallRow}

module _ {A : Type 0} (P : A → Type 0) (d : A) where
  -- what is past the end has it too
  past : (l : List A) → ((k : ℕ) → P (get_or l k d)) → P d
  past l h = subst P (get_or-eq_default l d (le_refl (length l))) (h (length l))

  pub take_each : (n : ℕ) (l : List A) → ((k : ℕ) → P (get_or l k d)) → (k : ℕ) → P (get_or (take n l) k d)
  take_each n l h k =
      ⊎_elim
      (λ (o : n ≤ k). subst P (sym (get_or-eq_default (take n l) d (omega (arith, length-take n l, o)))) (past l h))
      (λ (o : k < n). subst P (sym (get_or-take n l k d o)) (h k))
      (le_or_lt n k)

  pub drop_each : (n : ℕ) (l : List A) → ((k : ℕ) → P (get_or l k d)) → (k : ℕ) → P (get_or (drop n l) k d)
  drop_each n l h k = subst P (sym (get_or-drop n l k d)) (h (n + k))

  pub append_each : (xs ys : List A) → ((k : ℕ) → P (get_or xs k d)) → ((k : ℕ) → P (get_or ys k d)) → (k : ℕ) → P (get_or (xs ++ ys) k d)
  append_each xs ys f g k =
      ⊎_elim
      (λ (o : length xs ≤ k).
      let e : length xs + (k - length xs) ≡ k = omega (arith, o) in
      subst P (sym (ap (λ t. get_or (xs ++ ys) t d) (sym e) ∙ get_or-append-add xs ys (k - length xs) d)) (g (k - length xs)))
      (λ (o : k < length xs). subst P (sym (get_or-append xs ys d k o)) (f k))
      (le_or_lt (length xs) k)

-- ---- what the proposer takes
module _ (ws cs paid : List ℕ) (b : ℕ) (h : (i : ℕ) → get_or cs i 0 < b) (some : 0 < b) where
  -- a row never holds more than at first
  held : (s i : ℕ) → get_or (left_to ws cs paid s) i 0 ≤ get_or cs i 0
  unfolding served
  held zero i = le_refl _
  held (suc s) i = le_trans (served_less (length ws) ws (order_of ws) (record { left = left_to ws cs paid s; owed = get_or paid s 0 }) i) (held s i)

  takes_small : (s i : ℕ) → takes ws cs paid s i < b
  unfolding takes
  takes_small s i = omega (arith, held s i, h i)

  listed_small : (s k : ℕ) → get_or (list_to (length ws) (takes ws cs paid s)) k 0 < b
  listed_small s k =
      ⊎_elim
      (λ (o : length ws ≤ k). subst (λ t. t < b) (sym (get_or-eq_default (list_to (length ws) (takes ws cs paid s)) 0 (omega (arith, list_long (length ws) (takes ws cs paid s), o)))) some)
      (λ (o : k < length ws). subst (λ t. t < b) (sym (list_at (length ws) (takes ws cs paid s) 0 k o)) (takes_small s k))
      (le_or_lt (length ws) k)

  to_small : (n k : ℕ) → get_or (proposal_to ws cs paid n) k 0 < b
  to_small zero k = some
  to_small (suc n) k = append_each (λ t. t < b) 0 (proposal_to ws cs paid n) (list_to (length ws) (takes ws cs paid n)) (to_small n) (listed_small n) k

  pub proposal_small : (k : ℕ) → get_or (proposal ws cs paid) k 0 < b
  unfolding proposal
  proposal_small = to_small (length paid)

-- ---- rows
pub counts_small : (rows : List Row) → ((k : ℕ) → SmallRow (get_or rows k no_row)) → (k : ℕ) → get_or (counts_of rows) k 0 < 10 ^ 9
counts_small rows h k = subst (λ t. t < 10 ^ 9) (sym (get_or-map (λ (r : Row). r.count) rows k no_row)) (h k).count

module _ (sittings : ℕ) (p : List ℕ) (rows : List Row) (h : (k : ℕ) → SmallRow (get_or rows k no_row)) where
  lowered_small : (k : ℕ) → SmallRow (get_or (lower_all sittings p rows) k no_row)
  lowered_small k =
      ⊎_elim
      (λ (o : length rows ≤ k). subst SmallRow (sym (get_or-eq_default (lower_all sittings p rows) no_row (omega (arith, each_long (λ i r. lower r (taken_from (length rows) sittings p i)) rows, o)))) (past SmallRow no_row rows h))
      (λ (o : k < length rows).
      let r = get_or rows k no_row in
      let t = taken_from (length rows) sittings p k in
      subst SmallRow (sym (each_at no_row (λ i r. lower r (taken_from (length rows) sittings p i)) rows k o)) (record { worth = (h k).worth; count = less r.count t (h k).count }))
      (le_or_lt (length rows) k)
    where
      less : (n t : ℕ) → n < 10 ^ 9 → n - t < 10 ^ 9
      less n t l = omega (arith, l)

  pub after_small : (code k : ℕ) → SmallRow (get_or (rows_after code sittings p rows) k no_row)
  unfolding rows_after
  after_small code k = ⊎_elim (λ e. rw e (lowered_small k)) (λ e. rw e (h k)) (test (eqb code 0))

-- ---- codes
pub judged_small : (rows : List Row) (paid p : List ℕ) → judged_rows rows paid p < 10 ^ 9
unfolding judged_rows judged
judged_small rows paid p = go (fits (worths_of rows) (counts_of rows) (length paid) (length p)) (both (pays_all (worths_of rows) paid p) (holds_all (counts_of rows) (length paid) p))
  where
    go : (f t : Bool) → pick f (pick t 0 16) 2 < 10 ^ 9
    go true true = lit< tt
    go true false = lit< tt
    go false t = lit< tt
