-- `take`: an entry that has a code before the table's state is asked is judged as a void one; what the rest then gets is what the paper gives it. Assumes nothing.
use Prim.Native.Nat.{ℕ, zero, suc, ◌+◌}
use mathlib.Core.Bool.{Bool, true, false, not}
use mathlib.Core.Path.{◌≡◌, refl, sym, ap, ◌∙◌}
use mathlib.Core.Logic.{⊎_elim}
use lib.Dec.{eqb}
use borrow.Author.Tests.{eqb-true, eqb-false, ne_eqb, not-false}
use Rattle.laws.specs.Tests.{both, pick}
use Rattle.laws.proofs.Tests.{both_true, test}
use Rattle.paper.specs.Paper.{when, or_else, between, in_kind, in_range}
use Rattle.paper.proofs.Codes.{or_some, or_none, or_zero, when_zero}
use Rattle.paper.specs.declared.Entry.{Entry}
use Rattle.paper.specs.declared.Entry.TheVariants.{Void}
use Rattle.table.specs.State.{with_taken}
use Rattle.table.specs.Settle.{no_payout}
use Rattle.table.specs.Refused.{early_of}
use Rattle.table.specs.Take.{Sound, kind_code, applied_to, payout_by, kind_taken, code_of, next_of, payout_of, taken_of}
use Rattle.table.specs.declared.table.Table.{Table}
use Rattle.table.specs.declared.table.Taken.{Taken}
use Rattle.table.proofs.Standing.{sound_taken}

or_assoc : (a b k : ℕ) → or_else (or_else a b) k ≡ or_else a (or_else b k)
or_assoc zero b k = refl
or_assoc (suc a) b k = refl

code_is : (t : Table) (n : ℕ) (e : Entry) (early : ℕ) → early ≡ early_of t n e → code_of t n e ≡ or_else early (kind_code t e)
unfolding code_of
code_is t n e early q =
    sym (or_assoc (when (not (in_range t.sheet n e)) 2) (when (not (eqb (t.taken + 1) n)) 3) (kind_code t e)) ∙ ap (λ (k : ℕ). or_else k (kind_code t e)) (sym q)

-- what is judged is in its ranges
in_kind_law : (t : Table) (n : ℕ) (e : Entry) → early_of t n e ≡ 0 → in_kind t.sheet e ≡ true
unfolding in_range
in_kind_law t n e h =
    let ok = both (between 1 1000000 n) (in_kind t.sheet e) in
    let p = or_zero (when (not ok) 2) (when (not (eqb (t.taken + 1) n)) 3) h in
    (both_true (between 1 1000000 n) (in_kind t.sheet e) (not-false ok (when_zero (not ok) 1 p.0))).1

pub meant_kind : (t : Table) (n : ℕ) (e f : Entry) (early : ℕ) → early ≡ early_of t n e → f ≡ pick (eqb early 0) e Void → in_kind t.sheet f ≡ true
meant_kind t n e f early q m =
    ⊎_elim
    (λ (b : eqb early 0 ≡ true). ap (λ (x : Entry). in_kind t.sheet x) (m ∙ ap (λ (z : Bool). pick z e Void) b) ∙ in_kind_law t n e (sym q ∙ eqb-true early 0 b))
    (λ (b : eqb early 0 ≡ false). ap (λ (x : Entry). in_kind t.sheet x) (m ∙ ap (λ (z : Bool). pick z e Void) b))
    (test (eqb early 0))

-- an entry that is taken is counted
counted_or : (t u : Table) (n : ℕ) (b : Bool) → with_taken (pick b u t) (pick b n t.taken) ≡ pick b (with_taken u n) t
counted_or t u n true = refl
counted_or t u n false = refl

taken_is : (t : Table) (n : ℕ) (e : Entry) (r : Taken) → r.code ≡ code_of t n e → r.table ≡ next_of t n e → r.payout ≡ payout_of t n e → r ≡ taken_of t n e
unfolding taken_of
taken_is t n e r p q w = rw (p, q, w)

-- `take` keeps `Sound`
sound_next : (t : Table) (n : ℕ) (e : Entry) → Sound t → Sound (next_of t n e)
unfolding next_of
sound_next t n e h =
    ⊎_elim
    (λ (q : eqb (code_of t n e) 0 ≡ true). rw q (sound_taken t n e h (eqb-true (code_of t n e) 0 q)))
    (λ (q : eqb (code_of t n e) 0 ≡ false). rw q h)
    (test (eqb (code_of t n e) 0))

sound_of : (t : Table) (n : ℕ) (e : Entry) (r : Taken) → Sound t → r ≡ taken_of t n e → Sound r.table
unfolding taken_of
sound_of t n e r h q = rw q (sound_next t n e h)

module _ (t : Table) (n : ℕ) (e f : Entry) (early : ℕ) (d r : Taken) (q : early ≡ early_of t n e) (m : f ≡ pick (eqb early 0) e Void) (d-is : d ≡ kind_taken t f)
    (code : r.code ≡ or_else early d.code) (next : r.table ≡ with_taken d.table (pick (eqb d.code 0) n t.taken)) (paid : r.payout ≡ d.payout) where
  -- it is in its ranges and the next
  judged : eqb early 0 ≡ true → r ≡ taken_of t n e
  unfolding kind_taken next_of payout_of
  judged b =
      let j = d-is ∙ ap (kind_taken t) (m ∙ ap (λ (z : Bool). pick z e Void) b) in
      let o = code_is t n e early q in
      let z = o ∙ or_none early (kind_code t e) (eqb-true early 0 b) in
      taken_is t n e r
      (code ∙ ap (λ (x : Taken). or_else early x.code) j ∙ sym o)
      (next ∙ ap (λ (x : Taken). with_taken x.table (pick (eqb x.code 0) n t.taken)) j ∙ counted_or t (applied_to t e) n (eqb (kind_code t e) 0)
      ∙ ap (λ (k : ℕ). pick (eqb k 0) (with_taken (applied_to t e) n) t) (sym z))
      (paid ∙ ap (λ (x : Taken). x.payout) j ∙ ap (λ (k : ℕ). pick (eqb k 0) (payout_by t e) no_payout) (sym z))

  -- it is not
  barred : eqb early 0 ≡ false → r ≡ taken_of t n e
  unfolding kind_taken next_of payout_of
  barred b =
      let no = eqb-false early 0 b in
      let j = d-is ∙ ap (kind_taken t) (m ∙ ap (λ (z : Bool). pick z e Void) b) in
      let z = code_is t n e early q ∙ or_some early (kind_code t e) no in
      let c = ne_eqb (code_of t n e) 0 (λ (k : code_of t n e ≡ 0). no (sym z ∙ k)) in
      taken_is t n e r
      (code ∙ ap (λ (x : Taken). or_else early x.code) j ∙ or_some early 4 no ∙ sym z)
      (next ∙ ap (λ (x : Taken). with_taken x.table (pick (eqb x.code 0) n t.taken)) j ∙ sym (ap (λ (k : Bool). pick k (with_taken (applied_to t e) n) t) c))
      (paid ∙ ap (λ (x : Taken). x.payout) j ∙ sym (ap (λ (k : Bool). pick k (payout_by t e) no_payout) c))

  take_is : r ≡ taken_of t n e
  take_is = ⊎_elim judged barred (test (eqb early 0))

  pub take_kept : Sound t → (r ≡ taken_of t n e) × Sound r.table
  take_kept h = (take_is, sound_of t n e r h take_is)
