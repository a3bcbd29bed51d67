-- The zeros in front of a number are passed one by one; and a number in nine digits, as the box writes it, is read back (`nine_read`). Assumes nothing.
use mathlib.Core.Path.{◌≡◌, refl, sym, ap, ◌∙◌}
use mathlib.Core.List.{List, [], ◌∷◌, ◌++◌, append_assoc}
use mathlib.Core.Bool.{true, true≢false}
use Prim.Native.Nat.{ℕ, zero, suc, ◌-◌, ◌≤◌, ◌<◌, ◌^◌}
use native.Mathlib.Omega.{arith}
use lib.ListN.{length, get_or, drop, replicate}
use lib.Dec.{eqb, leb}
use borrow.Author.Tests.{eq-eqb, ne_eqb, eqb-false, not-true}
use Rattle.std.specs.Prelude.{Some}
use Rattle.laws.specs.Tests.{both}
use Rattle.laws.proofs.Tests.{both_true}
use Rattle.text.specs.Number.{all_digits, digits, leads_well, well_formed}
use Rattle.text.proofs.Numbers.{digits_formed, read_digits}
use Rattle.text.proofs.RoundTrip.{NoLF, no_append, no_number}
use Rattle.writing.specs.Nine.{nine_digits, nine_line}
use Rattle.writing.proofs.Nine.{nine_is}
use Rattle.picture.specs.Lines.{after_zeros, nine_of}

-- ---- one byte after another

zero_led : (b c : ℕ) (bs : List ℕ) → b ≡ 48 → after_zeros (b ∷ c ∷ bs) ≡ after_zeros (c ∷ bs)
zero_led b c bs e = rw (eq-eqb b 48 e)

other_led : (b c : ℕ) (bs : List ℕ) → (b ≡ 48 → ⊥) → after_zeros (b ∷ c ∷ bs) ≡ b ∷ c ∷ bs
other_led b c bs e = rw (ne_eqb b 48 e)

pub one_stays : (bs : List ℕ) → length bs ≤ 1 → after_zeros bs ≡ bs
one_stays [] h = refl
one_stays (b ∷ []) h = refl
one_stays (b ∷ c ∷ bs) h = absurd (omega arith)

-- a zero in front is passed
pub zero_passed : (bs : List ℕ) → 1 < length bs → get_or bs 0 0 ≡ 48 → after_zeros bs ≡ after_zeros (drop 1 bs)
zero_passed [] h e = absurd (omega arith)
zero_passed (b ∷ []) h e = absurd (omega arith)
zero_passed (b ∷ c ∷ bs) h e = zero_led b c bs e

-- where none leads, the bytes stay
pub none_leads : (bs : List ℕ) → 1 < length bs → (get_or bs 0 0 ≡ 48 → ⊥) → after_zeros bs ≡ bs
none_leads [] h e = absurd (omega arith)
none_leads (b ∷ []) h e = absurd (omega arith)
none_leads (b ∷ c ∷ bs) h e = other_led b c bs e

-- ---- what is written is read back

zeros_passed : (k b : ℕ) (bs : List ℕ) → after_zeros (replicate k 48 ++ (b ∷ bs)) ≡ after_zeros (b ∷ bs)
zeros_passed zero b bs = refl
zeros_passed (suc zero) b bs = refl
zeros_passed (suc (suc k)) b bs = zeros_passed (suc k) b bs

-- a number stays, whatever zeros stand in front of it
zeros_back : (k : ℕ) (bs : List ℕ) → leads_well bs ≡ true → after_zeros (replicate k 48 ++ bs) ≡ bs
zeros_back k [] e = absurd (true≢false (sym e))
zeros_back k (b ∷ []) e = zeros_passed k b []
zeros_back k (b ∷ c ∷ bs) e = zeros_passed k b (c ∷ bs) ∙ other_led b c bs (eqb-false b 48 (not-true (eqb b 48) e))

no_zeros : (k : ℕ) → NoLF (replicate k 48)
no_zeros zero = tt
no_zeros (suc k) = (λ e. omega arith, no_zeros k)

module _ (n : ℕ) (p : n < 10 ^ 9) where
  nine_back : after_zeros (nine_digits n) ≡ digits n
  unfolding nine_digits well_formed
  nine_back = zeros_back (9 - length (digits n)) (digits n) (both_true (leads_well (digits n)) (both (leb (length (digits n)) 9) (all_digits (digits n))) (digits_formed n p)).0

  pub nine_read : nine_of (nine_digits n) ≡ Some n
  unfolding nine_of
  nine_read = rw (nine_is n, nine_back) (read_digits n p)

  pub nine_no_lf : NoLF (nine_digits n)
  unfolding nine_digits
  nine_no_lf = no_append (replicate (9 - length (digits n)) 48) (digits n) (no_zeros (9 - length (digits n))) (no_number (digits n) n (read_digits n p)).0

pub nine_shape : (key rest : List ℕ) (n : ℕ) → nine_line key n ++ rest ≡ key ++ (61 ∷ nine_digits n) ++ (10 ∷ rest)
unfolding nine_line
nine_shape key rest n =
    append_assoc (key ++ (61 ∷ []) ++ nine_digits n) (10 ∷ []) rest
    ∙ ap (λ (r : List ℕ). r ++ (10 ∷ rest)) (append_assoc key (61 ∷ []) (nine_digits n))
