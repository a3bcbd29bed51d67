-- What a line of numbers is after a number's end, after a digit and after a byte, a law for each return. Assumes nothing.
use mathlib.Core.Path.{◌≡◌, sym, ap, ◌∙◌}
use mathlib.Core.Bool.{Bool, true, false}
use mathlib.Core.List.{List}
use Prim.Native.Nat.{ℕ, ◌+◌, ◌-◌, ◌*◌, ◌≤◌, ◌<◌}
use lib.Dec.{ltb, leb}
use lib.ListN.{length, set}
use lib.Seq.{set_out}
use borrow.Author.Tests.{eq-eqb, ne_eqb, lt-ltb, le-ltb, leb-true}
use Rattle.laws.specs.Tests.{both, pick}
use Rattle.laws.proofs.Tests.{both_true}
use Rattle.try_pots.specs.Numbers.{grows, spoilt_of, valued, digit_to, counted, ended_to, numbers_to, taken_to, numbers_with}
use Rattle.try_pots.specs.declared.line.Scan.{Scan}

module _ (s : Scan) (b : ℕ) where
  -- what the code asks, in two steps
  pub grows_is : {p q t : Bool} → p ≡ both (leb 48 b) (leb b 57) → q ≡ both (leb s.value 99999999) p → q ≡ t → grows s b ≡ t
  grows_is e f g = sym (f ∙ ap (λ (x : Bool). both (leb s.value 99999999) x) e) ∙ g

  pub digit_one : grows s b ≡ true → valued s (s.value * 10 + (b - 48)) ≡ digit_to s b
  unfolding digit_to
  digit_one e = sym (ap (λ (t : Bool). pick t (valued s (s.value * 10 + (b - 48))) (spoilt_of s)) e)

  pub digit_none : {r : Scan} → grows s b ≡ false → r ≡ spoilt_of s → r ≡ digit_to s b
  unfolding digit_to
  digit_none e q = q ∙ sym (ap (λ (t : Bool). pick t (valued s (s.value * 10 + (b - 48))) (spoilt_of s)) e)

  -- its digit, and room for it
  pub grows_by : grows s b ≡ true → (s.value ≤ 99999999) × (48 ≤ b) × (b ≤ 57)
  grows_by e =
      let p = both_true (leb s.value 99999999) (both (leb 48 b) (leb b 57)) e in
      let q = both_true (leb 48 b) (leb b 57) p.1 in
      (leb-true s.value 99999999 p.0, leb-true 48 b q.0, leb-true b 57 q.1)

module _ (s : Scan) (ns : List ℕ) where
  abbrev after : Scan
  after = pick (ltb s.count (length ns)) (counted s (s.count + 1)) (spoilt_of s)

  -- no number had begun
  pub ended_none : s.some ≡ false → (s ≡ ended_to s (length ns)) × (ns ≡ numbers_to s ns)
  unfolding ended_to numbers_to
  ended_none e = (sym (ap (λ (b : Bool). pick b after s) e), sym (ap (λ (b : Bool). pick b (set ns s.count s.value) ns) e))

  -- one had, and there is room for it
  pub ended_kept : s.some ≡ true → s.count < length ns → (counted s (s.count + 1) ≡ ended_to s (length ns)) × (set ns s.count s.value ≡ numbers_to s ns)
  unfolding ended_to numbers_to
  ended_kept e h = (
    ap (λ (b : Bool). pick b (counted s (s.count + 1)) (spoilt_of s)) (sym (lt-ltb s.count (length ns) h)) ∙ sym (ap (λ (b : Bool). pick b after s) e),
    sym (ap (λ (b : Bool). pick b (set ns s.count s.value) ns) e),
  )

  -- one had, and there is none
  pub ended_full : {r : Scan} → s.some ≡ true → length ns ≤ s.count → r ≡ spoilt_of s → (r ≡ ended_to s (length ns)) × (ns ≡ numbers_to s ns)
  unfolding ended_to numbers_to
  ended_full e h q = (
    q ∙ ap (λ (b : Bool). pick b (counted s (s.count + 1)) (spoilt_of s)) (sym (le-ltb s.count (length ns) h)) ∙ sym (ap (λ (b : Bool). pick b after s) e),
    sym (set_out ns s.count s.value h) ∙ sym (ap (λ (b : Bool). pick b (set ns s.count s.value) ns) e),
  )

  -- a blank ends a number
  pub taken_blank : {r : Scan} {ms : List ℕ} (b : ℕ) → b ≡ 32 → (r ≡ ended_to s (length ns)) × (ms ≡ numbers_to s ns)
      → (r ≡ taken_to s (length ns) b) × (ms ≡ numbers_with s ns b)
  unfolding taken_to numbers_with
  taken_blank b e q = (
    q.0 ∙ sym (ap (λ (t : Bool). pick t (ended_to s (length ns)) (digit_to s b)) (eq-eqb b 32 e)),
    q.1 ∙ sym (ap (λ (t : Bool). pick t (numbers_to s ns) ns) (eq-eqb b 32 e)),
  )

  -- any other byte belongs to one
  pub taken_other : {r : Scan} (b : ℕ) → (b ≡ 32 → ⊥) → r ≡ digit_to s b → (r ≡ taken_to s (length ns) b) × (ns ≡ numbers_with s ns b)
  unfolding taken_to numbers_with
  taken_other b n q = (
    q ∙ sym (ap (λ (t : Bool). pick t (ended_to s (length ns)) (digit_to s b)) (ne_eqb b 32 n)),
    sym (ap (λ (t : Bool). pick t (numbers_to s ns) ns) (ne_eqb b 32 n)),
  )
