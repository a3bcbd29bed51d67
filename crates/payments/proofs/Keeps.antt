-- Every line keeps what holds at every line (`Sound`): `sound_heard`; and what an answer to a block leaves. Assumes nothing.
use Prim.Native.Nat.{ℕ, ◌<◌, ◌^◌}
use mathlib.Core.Path.{◌≡◌, refl}
use mathlib.Core.Bool.{Bool, true, false, not}
use mathlib.Core.Logic.{⊎_elim}
use mathlib.Core.List.{List}
use lib.Dec.{eqb}
use lib.ListN.{length, get_or, take, drop}
use Rattle.laws.specs.Tests.{both}
use Rattle.laws.proofs.Tests.{test}
use Rattle.tray.specs.Proposal.{accepted}
use Rattle.rows.specs.Rows.{no_row, rows_after}
use Rattle.teller.specs.declared.keys.Line.{Line}
use Rattle.teller.specs.declared.state.Teller.{Teller}
use Rattle.teller.specs.Keeping.{faulty, answer_line, SmallRow, Sound}
use Rattle.teller.proofs.Soundness.{sound_anew, sound-tray, sound-answer, sound-give}
use Rattle.payments.specs.Payments.{row_with, rows, paid, proposed, proposing, payment, paid_out, checked_code, checked}
use Rattle.payments.specs.Answering.{answers_line, proposal_line, tray_answer, heard_line}
use Rattle.payments.proofs.SmallRows.{take_each, drop_each, append_each, after_small}

module _ (s : Teller) (h : Sound s) where
  -- the tray's rows after an answer
  rows_small : (code m : ℕ) (p : List ℕ) (k : ℕ) → SmallRow (get_or (row_with s.tray (rows_after code m p (rows s))) k no_row)
  rows_small code m p =
      append_each SmallRow no_row (rows_after code m p (rows s)) (drop s.tray.rows s.tray.row)
      (after_small m p (rows s) (take_each SmallRow no_row s.tray.rows s.tray.row h.row) code)
      (drop_each SmallRow no_row s.tray.rows s.tray.row h.row)

  pub sound_checked : (gives : List ℕ) → Sound (checked s gives).teller
  unfolding checked
  sound_checked gives = sound_anew s _ h (rows_small (checked_code s gives) (length (paid s)) (take s.given gives))

  sound_payment : (gives : List ℕ) → Sound (payment s gives).teller
  unfolding payment
  sound_payment gives = sound_anew s _ h (rows_small accepted (length (paid s)) (proposed s))

  pub sound_paid : (gives : List ℕ) → Sound (paid_out s gives).teller
  unfolding paid_out
  sound_paid gives =
      ⊎_elim
      (λ (e : faulty s.listed ≡ true). rw e (sound_anew s s.tray.row h h.row))
      (λ (e : faulty s.listed ≡ false).
      ⊎_elim
      (λ (q : eqb (proposing s) accepted ≡ true). rw (e, q) (sound_payment gives))
      (λ (q : eqb (proposing s) accepted ≡ false). rw (e, q) (sound_anew s s.tray.row h h.row))
      (test (eqb (proposing s) accepted)))
      (test (faulty s.listed))

module _ (l : Line) (small : l.value < 10 ^ 9) where
  pub sound_answers : (check : Bool) (s : Teller) (gives : List ℕ) → Sound s → Sound (answers_line check s l gives).teller
  unfolding answers_line
  sound_answers check s gives h =
      ⊎_elim
      (λ e. rw e (sound_paid (answer_line s l) (sound-answer s h l small) gives))
      (λ e. rw e (sound-answer s h l small))
      (test (both (not check) (eqb (answer_line s l).due 4)))

  pub sound_proposal : (s : Teller) (gives : List ℕ) → Sound s → Sound (proposal_line s l gives).teller
  unfolding proposal_line
  sound_proposal s gives h =
      ⊎_elim
      (λ e. rw e (sound-give s h l small))
      (λ e. rw e (sound_answers true (checked s gives).teller gives (sound_checked s h gives)))
      (test (eqb l.kind 6))

  sorts : (a b c : Bool) (check : Bool) (s : Teller) (gives : List ℕ) → Sound s → eqb s.due 4 ≡ a → eqb s.due 3 ≡ b → eqb s.due 5 ≡ c → Sound (heard_line check s l gives).teller
  unfolding heard_line tray_answer
  sorts true b c check s gives h e q r = rw e (sound_proposal s gives h)
  sorts false true c check s gives h e q r = rw (e, q) (sound_answers check s gives h)
  sorts false false true check s gives h e q r = rw (e, q, r) h
  sorts false false false check s gives h e q r = rw (e, q, r) (sound-tray s h l small)

  pub sound_heard : (check : Bool) (s : Teller) (gives : List ℕ) → Sound s → Sound (heard_line check s l gives).teller
  sound_heard check s gives h = sorts (eqb s.due 4) (eqb s.due 3) (eqb s.due 5) check s gives h refl refl refl
