-- The promises of the checker and the proposer over a lent slice of rows, by those over the rows' worths and counts. For any numbers of rows and sittings.
--     rows_accepts_iff       accepted exactly if all is within its bounds, every sitting is paid exactly its `paid`, and no row gives more than it holds
--     rows_refused_iff       16 exactly if all is within its bounds and the one or the other fails
--     rows_bounds_iff        2 exactly if something is out of its bounds
--     rows_lowered           accepting lowers each row's count by just what is taken from it, and its worth stays
--     rows_refused_same      any other answer leaves each row as it was
--     rows_proposed_accepted a proposal that the proposer writes is accepted
--     rows_seventeen_iff     17 exactly if all is within its bounds and something stays unpaid
-- Assumes nothing.
use Prim.Native.Nat.{ℕ, ◌<◌}
use mathlib.Core.Path.{◌≡◌, ap, ◌∙◌}
use mathlib.Core.List.{List}
use lib.ListN.{length, get_or}
use borrow.Author.Tests.{eq-eqb, ne_eqb}
use Rattle.laws.specs.Tests.{pick}
use Rattle.tray.specs.Proposal.{accepted, refused, out_of_bounds, taken_from}
use Rattle.tray.proofs.Front.{each_at}
use Rattle.tray.proofs.Within.{Within}
use Rattle.tray.proofs.Accepts.{Exactly, accepts_iff, refused_iff, bounds_iff}
use Rattle.proposer.specs.Proposer.{proposal, written, unpaid}
use Rattle.proposer.proofs.Payment.{Unpaid, proposed_accepted, seventeen_iff}
use Rattle.rows.specs.declared.Row.{Row}
use Rattle.rows.specs.Rows.{no_row, worths_of, counts_of, lower, lower_all, judged_rows, rows_after, proposing_rows}

module _ (rows : List Row) (paid p : List ℕ) where
  -- within the bounds, and paid exactly
  abbrev pub InBounds : Type 0
  InBounds = Within (worths_of rows) (counts_of rows) (length paid) (length p)

  abbrev pub Exact : Type 0
  Exact = Exactly (worths_of rows) (counts_of rows) paid p

  pub rows_accepts_iff : (judged_rows rows paid p ≡ accepted → InBounds × Exact) × (InBounds × Exact → judged_rows rows paid p ≡ accepted)
  unfolding judged_rows
  rows_accepts_iff = accepts_iff (worths_of rows) (counts_of rows) paid p

  pub rows_refused_iff : (judged_rows rows paid p ≡ refused → InBounds × (Exact → ⊥)) × (InBounds × (Exact → ⊥) → judged_rows rows paid p ≡ refused)
  unfolding judged_rows
  rows_refused_iff = refused_iff (worths_of rows) (counts_of rows) paid p

  pub rows_bounds_iff : (judged_rows rows paid p ≡ out_of_bounds → InBounds → ⊥) × ((InBounds → ⊥) → judged_rows rows paid p ≡ out_of_bounds)
  unfolding judged_rows
  rows_bounds_iff = bounds_iff (worths_of rows) (counts_of rows) paid p

  pub rows_lowered : judged_rows rows paid p ≡ accepted → (i : ℕ) → i < length rows
      → get_or (rows_after (judged_rows rows paid p) (length paid) p rows) i no_row ≡ lower (get_or rows i no_row) (taken_from (length rows) (length paid) p i)
  unfolding rows_after
  rows_lowered e i l =
      ap (λ t. get_or (pick t (lower_all (length paid) p rows) rows) i no_row) (eq-eqb (judged_rows rows paid p) 0 e)
      ∙ each_at no_row (λ j r. lower r (taken_from (length rows) (length paid) p j)) rows i l

  pub rows_refused_same : (judged_rows rows paid p ≡ accepted → ⊥) → rows_after (judged_rows rows paid p) (length paid) p rows ≡ rows
  unfolding rows_after
  rows_refused_same h = ap (λ t. pick t (lower_all (length paid) p rows) rows) (ne_eqb (judged_rows rows paid p) 0 h)

module _ (rows : List Row) (paid : List ℕ) where
  pub rows_proposed_accepted : (long : ℕ) → proposing_rows rows paid long ≡ written → judged_rows rows paid (proposal (worths_of rows) (counts_of rows) paid) ≡ accepted
  unfolding proposing_rows judged_rows
  rows_proposed_accepted long e = proposed_accepted (worths_of rows) (counts_of rows) paid long e

  abbrev pub InBoundsFor : ℕ → Type 0
  InBoundsFor long = Within (worths_of rows) (counts_of rows) (length paid) long

  pub rows_seventeen_iff : (long : ℕ) → (proposing_rows rows paid long ≡ unpaid → InBoundsFor long × Unpaid (worths_of rows) (counts_of rows) paid) × (InBoundsFor long × Unpaid (worths_of rows) (counts_of rows) paid → proposing_rows rows paid long ≡ unpaid)
  unfolding proposing_rows
  rows_seventeen_iff long = seventeen_iff (worths_of rows) (counts_of rows) paid long
