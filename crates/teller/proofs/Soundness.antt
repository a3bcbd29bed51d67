-- What holds at every line: a tray of at most sixteen rows, and no number of more than nine digits. It holds before the first line, and each line keeps it.
-- Assumes nothing.
--     sound_start, sound-tray, sound-answer, sound-give, sound_anew
use Prim.Native.Nat.{ℕ, zero, suc, ◌≤◌, ◌<◌, ◌^◌}
use mathlib.Core.Path.{◌≡◌, refl, sym, ap, ◌∙◌, subst}
use mathlib.Core.Bool.{Bool, true, false}
use mathlib.Core.Logic.{⊎_elim}
use mathlib.Core.List.{List}
use native.Mathlib.Omega.{arith}
use lib.Dec.{eqb, lit<}
use lib.ListN.{length, get_or, set, replicate}
use lib.Seq.{get_or-set_same, get_or-set_other, set_out}
use borrow.Author.Tests.{leb-true, eqb-true}
use Rattle.laws.specs.Tests.{both}
use Rattle.laws.proofs.Tests.{both_true, test}
use Rattle.laws.proofs.Sums.{le_or_lt, zeros_at}
use Rattle.laws.proofs.Compare.{tri, under, level, over}
use Rattle.tray.specs.Proposal.{most_rows, most_sittings}
use Rattle.rows.specs.declared.Row.{Row}
use Rattle.rows.specs.Rows.{no_row}
use Rattle.teller.specs.declared.keys.Line.{Line}
use Rattle.teller.specs.declared.state.Teller.{Teller}
use Rattle.teller.specs.Keeping.{started, within_due, fits_due, taken_due, tray_line, answer_line, give_line, listing, sitting_line, anew, SmallRow, Sound}

-- a fact of every place of a list stays one where an element that has it is put somewhere
pub put_each : {A : Type 0} (P : A → Type 0) (d : A) (l : List A) (i : ℕ) (x : A) → P x → ((k : ℕ) → P (get_or l k d)) → (k : ℕ) → P (get_or (set l i x) k d)
put_each P d l i x p h k =
    ⊎_elim
    (λ (o : length l ≤ i). subst (λ t. P (get_or t k d)) (sym (set_out l i x o)) (h k))
    (λ (o : i < length l).
    elim (tri k i) [
      | under u ↦ subst P (sym (get_or-set_other l i k x d (λ e. absurd (omega (arith, e, u))))) (h k)
      | level e ↦ subst P (sym (ap (λ t. get_or (set l i x) t d) e ∙ get_or-set_same l i x d o)) p
      | over u ↦ subst P (sym (get_or-set_other l i k x d (λ e. absurd (omega (arith, e, u))))) (h k)
    ])
    (le_or_lt (length l) i)

-- the same element everywhere
repeats : {A : Type 0} (n : ℕ) (x : A) (k : ℕ) → get_or (replicate n x) k x ≡ x
repeats zero x k = refl
repeats (suc n) x zero = refl
repeats (suc n) x (suc k) = repeats n x k

none_small : SmallRow no_row
none_small = record { worth = lit< tt; count = lit< tt }

zeros_small : (n k : ℕ) → get_or (replicate n 0) k 0 < 10 ^ 9
zeros_small n k = subst (λ t. t < 10 ^ 9) (sym (zeros_at n k)) (lit< tt)

pub sound_start : Sound started
sound_start = record {
  few = omega arith;
  worth = lit< tt;
  row = λ k. subst SmallRow (sym (repeats most_rows no_row k)) none_small;
  sittings = zeros_small most_sittings;
}

-- new rows, and no sitting listed
pub sound_anew : (s : Teller) (row : List Row) → Sound s → ((k : ℕ) → SmallRow (get_or row k no_row)) → Sound (anew s row)
sound_anew s row h r = record { few = h.few; worth = h.worth; row = r; sittings = zeros_small most_sittings }

module _ (s : Teller) (h : Sound s) where
  module _ (l : Line) (small : l.value < 10 ^ 9) where
    -- ---- the tray
    -- `rows` is at most sixteen
    within-few : (v : ℕ) → s.due ≡ 0 → within_due s.due v ≡ true → v ≤ 16
    within-few v e w = leb-true v 16 (sym (ap (λ d. within_due d v) e) ∙ w)

    sound-taken : (a b : Bool) → eqb s.due 0 ≡ a → eqb s.due 1 ≡ b → within_due s.due l.value ≡ true → Sound (taken_due s l.value)
    unfolding taken_due
    sound-taken true b e q w = rw e (record { few = few'; worth = h.worth; row = h.row; sittings = h.sittings })
      where
        few' : l.value ≤ 16
        few' = within-few l.value (eqb-true s.due 0 e) w
    sound-taken false true e q w = rw (e, q) (record { few = h.few; worth = small; row = h.row; sittings = h.sittings })
    sound-taken false false e q w =
        rw (e, q) (record {
          few = h.few;
          worth = h.worth;
          row = put_each SmallRow no_row s.tray.row s.tray.read (record { worth = s.tray.worth; count = l.value }) (record { worth = h.worth; count = small }) h.row;
          sittings = h.sittings;
        })

    pub sound-tray : Sound (tray_line s l)
    unfolding tray_line
    sound-tray =
        ⊎_elim
        (λ (e : fits_due s.due l ≡ true).
        let p = both_true l.good (both (eqb l.kind s.due) (within_due s.due l.value)) e in
        let q = both_true (eqb l.kind s.due) (within_due s.due l.value) p.1 in
        rw e (sound-taken (eqb s.due 0) (eqb s.due 1) refl refl q.1))
        (λ (e : fits_due s.due l ≡ false). rw e (record { few = h.few; worth = h.worth; row = h.row; sittings = h.sittings }))
        (test (fits_due s.due l))

    -- ---- the answers
    put-sitting : Sound (listing s 3 (sitting_line s.listed l))
    put-sitting = record {
      few = h.few;
      worth = h.worth;
      row = h.row;
      sittings = put_each (λ n. n < 10 ^ 9) 0 s.listed.sittings s.listed.count l.value small h.sittings;
    }

    sorts : (a b c : Bool) → eqb l.kind 3 ≡ a → eqb l.kind 4 ≡ b → eqb l.kind 5 ≡ c → Sound (answer_line s l)
    unfolding answer_line
    sorts true b c e q r = rw e put-sitting
    sorts false true c e q r = rw (e, q) (record { few = h.few; worth = h.worth; row = h.row; sittings = h.sittings })
    sorts false false true e q r = rw (e, q, r) (record { few = h.few; worth = h.worth; row = h.row; sittings = h.sittings })
    sorts false false false e q r = rw (e, q, r) h

    pub sound-answer : Sound (answer_line s l)
    sound-answer = sorts (eqb l.kind 3) (eqb l.kind 4) (eqb l.kind 5) refl refl refl

    pub sound-give : Sound (give_line s l)
    unfolding give_line
    sound-give = record { few = h.few; worth = h.worth; row = h.row; sittings = h.sittings }
