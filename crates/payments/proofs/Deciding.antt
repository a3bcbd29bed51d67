-- A block's answer, as the functions that make it end: a refusal changes nothing, the checker's answer is that for the rows that were lent, and what the proposer proposes is
-- accepted and lowers the rows. Assumes nothing.
use Prim.Native.Nat.{ℕ, ◌-◌, ◌*◌, ◌≤◌, ◌<◌, ◌^◌}
use mathlib.Core.Path.{◌≡◌, refl, sym, ap, ◌∙◌}
use mathlib.Core.Bool.{true, false}
use mathlib.Core.List.{List, ◌++◌}
use native.Mathlib.Nat.{sub-zero, mul-le-mul}
use native.Mathlib.Omega.{arith}
use lib.Dec.{eqb, ltb, lit<}
use lib.ListN.{length, get_or, take, drop, length-map, take-append-drop}
use lib.Seq.{length-take-le, take_at}
use borrow.Author.Tests.{ltb-false, eq-eqb, ne_eqb}
use borrow.Rule.Slice.PartMut.{mid_of, put_mid, mid_len}
use Rattle.laws.specs.Tests.{either}
use Rattle.laws.proofs.Tests.{either_false}
use Rattle.tray.specs.Proposal.{accepted}
use Rattle.proposer.specs.Proposer.{proposal, list_after}
use Rattle.proposer.proofs.Payment.{proposal_long}
use Rattle.rows.specs.declared.Row.{Row}
use Rattle.rows.specs.Rows.{no_row, worths_of, counts_of, judged_rows, rows_after, proposing_rows, list_of}
use Rattle.rows.proofs.Paid.{rows_proposed_accepted}
use Rattle.teller.specs.declared.state.Teller.{Teller}
use Rattle.teller.specs.Keeping.{faulty, anew, SmallRow, Sound}
use Rattle.payments.specs.Payments.{code_text, row_with, refusal, rows, paid, proposed, long, proposing, payment, paid_out, checked_code, checked}
use Rattle.payments.proofs.SmallRows.{take_each, counts_small, proposal_small}

-- listed sittings that can be paid are at most ten
pub few_listed : (s : Teller) → faulty s.listed ≡ false → s.listed.count ≤ 10
few_listed s e = ltb-false 10 s.listed.count (either_false s.listed.bad (ltb 10 s.listed.count) e).1

module _ (s : Teller) where
  -- rows that an answer leaves as they were fill their array as before
  same_rows : (code m : ℕ) (p : List ℕ) → eqb code 0 ≡ false → row_with s.tray (rows_after code m p (rows s)) ≡ s.tray.row
  unfolding rows_after
  same_rows code m p e = rw e (take-append-drop s.tray.rows s.tray.row)

  -- ---- the checker's answer
  module _ (gives : List ℕ) where
    pub checked-bad : either (faulty s.listed) (ltb 160 s.given) ≡ true → (anew s s.tray.row ≡ (checked s gives).teller) × (code_text 2 ≡ (checked s gives).text)
    unfolding checked checked_code
    checked-bad e = rw e (ap (anew s) (sym (same_rows 2 (length (paid s)) (take s.given gives) refl)), refl)

    pub checked-good : (code : ℕ) (after : List Row) → either (faulty s.listed) (ltb 160 s.given) ≡ false
        → code ≡ judged_rows (rows s) (mid_of 0 (s.listed.count - 0) s.listed.paid) (mid_of 0 (s.given - 0) gives)
        → after ≡ rows_after code (length (mid_of 0 (s.listed.count - 0) s.listed.paid)) (mid_of 0 (s.given - 0) gives) (rows s) ++ drop s.tray.rows s.tray.row
        → (anew s after ≡ (checked s gives).teller) × (code_text code ≡ (checked s gives).text)
    unfolding checked checked_code
    checked-good code after e c a = rw (e, a, c, sub-zero s.listed.count, sub-zero s.given) (refl, refl)

  -- ---- the proposer's answer
  module _ (h : Sound s) (few : s.listed.count ≤ 10) (ten : length s.listed.paid ≡ 10) (sixteen : length s.tray.row ≡ 16) where
    rows_long : length (rows s) ≡ s.tray.rows
    rows_long = length-take-le s.tray.rows s.tray.row (omega (arith, h.few, sixteen))

    paid-long : length (paid s) ≡ s.listed.count
    paid-long = length-take-le s.listed.count s.listed.paid (omega (arith, few, ten))

    -- the proposal is as long as it is to be, and within 160
    pub proposed-long : length (proposed s) ≡ long s
    unfolding proposal
    proposed-long =
        proposal_long (worths_of (rows s)) (counts_of (rows s)) (paid s) (length (paid s))
        ∙ ap (λ k. k * length (worths_of (rows s))) paid-long
        ∙ ap (λ k. s.listed.count * k) (length-map (rows s) (λ (r : Row). r.worth) ∙ rows_long)

    pub long-most : long s ≤ 160
    long-most = mul-le-mul few h.few

    pub proposed-small : (k : ℕ) → get_or (proposed s) k 0 < 10 ^ 9
    proposed-small = proposal_small (worths_of (rows s)) (counts_of (rows s)) (paid s) (10 ^ 9) (counts_small (rows s) (take_each SmallRow no_row s.tray.rows s.tray.row h.row)) (lit< tt)

    -- what is proposed is accepted, and lowers the rows
    pub paid-rows : (p : List ℕ) (code : ℕ) (after : List Row) → proposing s ≡ accepted → p ≡ proposed s
        → code ≡ judged_rows (rows s) (mid_of 0 (s.listed.count - 0) s.listed.paid) p
        → after ≡ rows_after code (length (mid_of 0 (s.listed.count - 0) s.listed.paid)) p (rows s) ++ drop s.tray.rows s.tray.row
        → anew s after ≡ (payment s p).teller
    unfolding payment
    paid-rows p code after w e c a =
        let z : judged_rows (rows s) (paid s) (proposed s) ≡ 0 = rows_proposed_accepted (rows s) (paid s) (long s) w in
        rw (a, c, sub-zero s.listed.count, e, z) refl

  -- ---- the lent list
  module _ (gives : List ℕ) where
    pub list-kept : (code : ℕ) → (code ≡ accepted → ⊥) → put_mid 0 (long s - 0) gives (list_of code (rows s) (paid s) (mid_of 0 (long s - 0) gives)) ≡ gives
    unfolding list_of list_after
    list-kept code n = rw (ne_eqb code 0 n, sub-zero (long s)) (take-append-drop (long s) gives)

    pub list_written : put_mid 0 (long s - 0) gives (list_of accepted (rows s) (paid s) (mid_of 0 (long s - 0) gives)) ≡ proposed s ++ drop (long s) gives
    unfolding list_of list_after
    list_written = rw (sub-zero (long s)) refl

    pub list-front : length (proposed s) ≡ long s → mid_of 0 (long s - 0) (proposed s ++ drop (long s) gives) ≡ proposed s
    list-front e = rw (sub-zero (long s)) (take_at (proposed s) (drop (long s) gives) (long s) e)

    -- what the function that lends the rows says, in these words
    pub code_is : (code : ℕ) → long s ≤ length gives → code ≡ proposing_rows (rows s) (mid_of 0 (s.listed.count - 0) s.listed.paid) (length (mid_of 0 (long s - 0) gives)) → code ≡ proposing s
    code_is code h e =
        e
        ∙ ap (λ k. proposing_rows (rows s) (take k s.listed.paid) (length (mid_of 0 (long s - 0) gives))) (sub-zero s.listed.count)
        ∙ ap (proposing_rows (rows s) (paid s)) (mid_len 0 (long s) gives h ∙ sub-zero (long s))

    pub list-is : (code : ℕ) (last : List ℕ) → last ≡ list_of code (rows s) (mid_of 0 (s.listed.count - 0) s.listed.paid) (mid_of 0 (long s - 0) gives)
        → put_mid 0 (long s - 0) gives last ≡ put_mid 0 (long s - 0) gives (list_of code (rows s) (paid s) (mid_of 0 (long s - 0) gives))
    list-is code last e = ap (put_mid 0 (long s - 0) gives) (e ∙ ap (λ k. list_of code (rows s) (take k s.listed.paid) (mid_of 0 (long s - 0) gives)) (sub-zero s.listed.count))

    -- the answer, by its tests
    pub out-bad : faulty s.listed ≡ true → paid_out s gives ≡ refusal s gives 2
    unfolding paid_out
    out-bad e = rw e refl

    pub out-refused : faulty s.listed ≡ false → (proposing s ≡ accepted → ⊥) → paid_out s gives ≡ refusal s gives (proposing s)
    unfolding paid_out
    out-refused e n = rw (e, ne_eqb (proposing s) 0 n) refl

    pub out_paid : faulty s.listed ≡ false → proposing s ≡ accepted → paid_out s gives ≡ payment s gives
    unfolding paid_out
    out_paid e w = rw (e, eq-eqb (proposing s) 0 w) refl
