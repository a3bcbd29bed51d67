-- The digits of a number by two and by four, as they are written: what stands in front, then the last two or the last four. Assumes nothing.
use mathlib.Core.Path.{◌≡◌, sym, ap, ◌∙◌}
use mathlib.Core.List.{List, [], ◌∷◌, ◌++◌, append_assoc}
use Prim.Native.Nat.{ℕ, ◌+◌, ◌/◌, ◌%◌, ◌≤◌, ◌<◌, ◌^◌}
use native.Mathlib.Omega.{arith}
use lib.ListN.{length, set, length-append}
use lib.Seq.{set-set}
use lib.Dec.{ltb}
use mathlib.Core.Bool.{Bool}
use mathlib.Core.Logic.{⊎_elim}
use borrow.Author.Tests.{le-ltb, lt-ltb}
use Rattle.laws.specs.Tests.{pick}
use Rattle.laws.proofs.Sums.{le_or_lt}
use Rattle.writing.specs.AnswerSheet.{Wrote}
use Rattle.writing.proofs.Sheets.{push, push_first, same_bytes}
use Rattle.text.specs.Number.{digits}
use Rattle.text.proofs.Numbers.{digits_one, digits_more, count_one}

abbrev pub pair_of : ℕ → List ℕ
pair_of n = (48 + n / 10) ∷ (48 + n % 10) ∷ []

abbrev pub four_of : ℕ → List ℕ
four_of n = pair_of (n / 100) ++ pair_of (n % 100)

-- a number of two digits
pub digits_pair : (n : ℕ) → 10 ≤ n → n < 100 → digits n ≡ pair_of n
digits_pair n p q = digits_more n p (omega arith) ∙ ap (λ (k : List ℕ). k ++ ((48 + n % 10) ∷ [])) (digits_one (n / 10) (omega arith))

-- the last two
pub digits_two : (n : ℕ) → 100 ≤ n → n < 10 ^ 9 → digits n ≡ digits (n / 100) ++ pair_of (n % 100)
digits_two n p q =
    let a : n / 10 / 10 ≡ n / 100 = omega arith in
    let b : n / 10 % 10 ≡ n % 100 / 10 = omega arith in
    let d : n % 10 ≡ n % 100 % 10 = omega arith in
    digits_more n (omega arith) q
    ∙ ap (λ (k : List ℕ). k ++ ((48 + n % 10) ∷ [])) (digits_more (n / 10) (omega arith) (omega arith))
    ∙ append_assoc (digits (n / 10 / 10)) ((48 + n / 10 % 10) ∷ []) ((48 + n % 10) ∷ [])
    ∙ ap (λ (k : ℕ). digits k ++ ((48 + n / 10 % 10) ∷ (48 + n % 10) ∷ [])) a
    ∙ ap (λ (k : ℕ). digits (n / 100) ++ ((48 + k) ∷ (48 + n % 10) ∷ [])) b
    ∙ ap (λ (k : ℕ). digits (n / 100) ++ ((48 + n % 100 / 10) ∷ (48 + k) ∷ [])) d

-- a number of four digits
pub digits_four : (n : ℕ) → 1000 ≤ n → n < 10000 → digits n ≡ four_of n
digits_four n p q =
    digits_two n (omega arith) (omega arith) ∙ ap (λ (k : List ℕ). k ++ pair_of (n % 100)) (digits_pair (n / 100) (omega arith) (omega arith))

-- the last four
pub digits_long : (n : ℕ) → 10000 ≤ n → n < 10 ^ 9 → digits n ≡ digits (n / 10000) ++ four_of (n % 10000)
digits_long n p q =
    let a : n / 100 / 100 ≡ n / 10000 = omega arith in
    let b : n / 100 % 100 ≡ n % 10000 / 100 = omega arith in
    let d : n % 100 ≡ n % 10000 % 100 = omega arith in
    digits_two n (omega arith) q
    ∙ ap (λ (k : List ℕ). k ++ pair_of (n % 100)) (digits_two (n / 100) (omega arith) (omega arith))
    ∙ append_assoc (digits (n / 100 / 100)) (pair_of (n / 100 % 100)) (pair_of (n % 100))
    ∙ ap (λ (k : ℕ). digits k ++ (pair_of (n / 100 % 100) ++ pair_of (n % 100))) a
    ∙ ap (λ (k : ℕ). digits (n / 10000) ++ (pair_of k ++ pair_of (n % 100))) b
    ∙ ap (λ (k : ℕ). digits (n / 10000) ++ (pair_of (n % 10000 / 100) ++ pair_of k)) d

-- and how many they are
pub count_pair : (n : ℕ) → 10 ≤ n → n < 100 → length (digits n) ≡ 2
count_pair n p q = ap length (digits_pair n p q)

pub count_two : (n : ℕ) → 100 ≤ n → n < 10 ^ 9 → length (digits n) ≡ length (digits (n / 100)) + 2
count_two n p q = ap length (digits_two n p q) ∙ length-append (digits (n / 100)) (pair_of (n % 100))

pub count_four : (n : ℕ) → 1000 ≤ n → n < 10000 → length (digits n) ≡ 4
count_four n p q = ap length (digits_four n p q)

pub count_long : (n : ℕ) → 10000 ≤ n → n < 10 ^ 9 → length (digits n) ≡ length (digits (n / 10000)) + 4
count_long n p q = ap length (digits_long n p q) ∙ length-append (digits (n / 10000)) (four_of (n % 10000))

-- one digit or two and the LF, by three stores: with one digit the last store is at the place of the second
pub few_done : (n : ℕ) (l : List ℕ) {k f : ℕ} → n < 100 → length (digits n) < length l → k ≡ pick (ltb n 10) 1 2 → f ≡ pick (ltb n 10) n (n / 10)
    → Wrote (digits n ++ (10 ∷ [])) l (set (set (set l 0 (48 + f)) 1 (48 + n % 10)) k 10) (k + 1)
few_done n l {k} {f} q h ek ef = ⊎_elim wide narrow (le_or_lt 10 n)
  where
    wide : 10 ≤ n → Wrote (digits n ++ (10 ∷ [])) l (set (set (set l 0 (48 + f)) 1 (48 + n % 10)) k 10) (k + 1)
    wide p =
        let a : k ≡ 2 = ek ∙ ap (λ (b : Bool). pick b 1 2) (le-ltb n 10 p) in
        let d : f ≡ n / 10 = ef ∙ ap (λ (b : Bool). pick b n (n / 10)) (le-ltb n 10 p) in
        let c : length (digits n) ≡ 2 = count_pair n p q in
        rw (a, d)
        (same_bytes (ap (λ (x : List ℕ). x ++ (10 ∷ [])) (digits_pair n p q))
        (push 10 (omega (arith, c, h)) (push (48 + n % 10) (omega (arith, c, h)) (push_first l (48 + n / 10) (omega (arith, c, h))))))

    narrow : n < 10 → Wrote (digits n ++ (10 ∷ [])) l (set (set (set l 0 (48 + f)) 1 (48 + n % 10)) k 10) (k + 1)
    narrow p =
        let a : k ≡ 1 = ek ∙ ap (λ (b : Bool). pick b 1 2) (lt-ltb n 10 p) in
        let d : f ≡ n = ef ∙ ap (λ (b : Bool). pick b n (n / 10)) (lt-ltb n 10 p) in
        let c : length (digits n) ≡ 1 = count_one n p in
        rw (a, d, set-set (set l 0 (48 + n)) 1 (48 + n % 10) 10)
        (same_bytes (ap (λ (x : List ℕ). x ++ (10 ∷ [])) (digits_one n p)) (push 10 (omega (arith, c, h)) (push_first l (48 + n) (omega (arith, c, h)))))

-- how many they are
pub few_len : (n k : ℕ) → n < 100 → k ≡ pick (ltb n 10) 1 2 → (length (digits n) ≡ k) × (1 ≤ k)
few_len n k q e =
    ⊎_elim
    (λ (p : 10 ≤ n).
    let a : k ≡ 2 = e ∙ ap (λ (b : Bool). pick b 1 2) (le-ltb n 10 p) in
    (count_pair n p q ∙ sym a, omega (arith, a)))
    (λ (p : n < 10).
    let a : k ≡ 1 = e ∙ ap (λ (b : Bool). pick b 1 2) (lt-ltb n 10 p) in
    (count_one n p ∙ sym a, omega (arith, a)))
    (le_or_lt 10 n)
