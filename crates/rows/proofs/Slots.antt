-- The covered functions over columns: each law is what a function's last line has to show. Assumes nothing.
use Prim.Native.Nat.{ℕ, ◌-◌, ◌≤◌, ◌<◌}
use mathlib.Core.Path.{◌≡◌, refl, sym, ap, ◌∙◌}
use mathlib.Core.List.{List}
use native.Mathlib.Nat.{sub-zero}
use lib.ListN.{length, get_or, set, get_or-eq_default}
use lib.Seq.{set_out}
use borrow.Author.Tests.{le-leb, lt-leb}
use borrow.Rule.Slice.PartMut.{mid_of, put_mid}
use Rattle.tray.specs.Proposal.{judged, counts_after, most_rows}
use Rattle.proposer.specs.Proposer.{proposing, list_after}
use Rattle.rows.specs.declared.Row.{Row}
use Rattle.rows.specs.declared.Columns.{Columns}
use Rattle.rows.specs.Columns.{with_row, settled_of, recount, proposed_code, proposed_list}
use Rattle.rows.proofs.Settling.{any_default}

-- ---- a row past the last place
pub no_slot : (c : Columns) (r : Row) (i : ℕ) → length c.worths ≤ i → length c.counts ≤ i → c ≡ with_row c r i
no_slot c r i a b =
    ap (λ w. record { worths = w; counts = c.counts }) (sym (set_out c.worths i r.worth a))
    ∙ ap (λ k. record { worths = set c.worths i r.worth; counts = k }) (sym (set_out c.counts i r.count b))

-- ---- a row's count after the answer
pub slot_counted : (counts : List ℕ) (r : Row) (i : ℕ) → i < length counts → record { worth = r.worth; count = get_or counts i 0 } ≡ recount counts i r
slot_counted counts r i l = ap (λ k. record { worth = r.worth; count = k }) (any_default counts i 0 r.count l)

pub none_counted : (counts : List ℕ) (r : Row) (i : ℕ) → length counts ≤ i → r ≡ recount counts i r
none_counted counts r i l = ap (λ k. record { worth = r.worth; count = k }) (sym (get_or-eq_default counts r.count l))

-- ---- the checker over columns
module _ (c : Columns) (n : ℕ) (paid : List ℕ) where
  pub settled_many : (p : List ℕ) → most_rows < n → (c.counts ≡ (settled_of c n paid p).counts) × (2 ≡ (settled_of c n paid p).code)
  settled_many p h = (rw (lt-leb n 16 h) refl, rw (lt-leb n 16 h) refl)

  pub settled_few : (p : List ℕ) (code : ℕ) (new : List ℕ) → n ≤ most_rows → code ≡ judged (mid_of 0 (n - 0) c.worths) (mid_of 0 (n - 0) c.counts) paid p
      → new ≡ counts_after code (length paid) p (mid_of 0 (n - 0) c.counts) → (put_mid 0 (n - 0) c.counts new ≡ (settled_of c n paid p).counts) × (code ≡ (settled_of c n paid p).code)
  settled_few p code new h e q = (rw (le-leb n 16 h, q, e, sub-zero n) refl, rw (le-leb n 16 h, e, sub-zero n) refl)

  pub proposed_many : (old : List ℕ) → most_rows < n → (2 ≡ proposed_code c n paid (length old)) × (old ≡ proposed_list 2 c n paid old)
  unfolding list_after
  proposed_many old h = (rw (lt-leb n 16 h) refl, refl)

  pub proposed_few : (old new : List ℕ) (code : ℕ) → n ≤ most_rows → code ≡ proposing (mid_of 0 (n - 0) c.worths) (mid_of 0 (n - 0) c.counts) paid (length old)
      → new ≡ list_after code (mid_of 0 (n - 0) c.worths) (mid_of 0 (n - 0) c.counts) paid old
      → (code ≡ proposed_code c n paid (length old)) × (new ≡ proposed_list code c n paid old)
  proposed_few old new code h e q = (e ∙ rw (le-leb n 16 h, sub-zero n) refl, q ∙ rw (sub-zero n) refl)
