-- Bytes with the jackpot's number blanked: as many as before; line after line; and the nine digits of a `jackpot` line are blanked whatever the number is. For any
-- bytes. Assumes nothing.
use Prim.Native.Nat.{ℕ, zero, suc, ◌+◌, ◌-◌, ◌/◌, ◌%◌}
use mathlib.Core.Bool.{Bool, true, false, not}
use mathlib.Core.Path.{◌≡◌, refl, sym, ap, ap₂, ◌∙◌}
use mathlib.Core.List.{List, [], ◌∷◌, ◌++◌, append_assoc, append-nil}
use native.Mathlib.Omega.{arith}
use lib.ListN.{length, replicate}
use lib.Dec.{ltb}
use borrow.Author.Tests.{ne_eqb}
use Rattle.laws.specs.Tests.{pick}
use Rattle.laws.specs.Lists.{All}
use Rattle.text.specs.Line.{number_line}
use Rattle.text.specs.Number.{digits, digits_in}
use Rattle.writing.specs.Nine.{nine_digits, nine_line}
use Rattle.writing.proofs.Nine.{nine_is}
use Rattle.answers.specs.Answer.{key_jackpot}
use Rattle.neighbours.specs.Blanked.{blank_at, line_with, blanked_in, blanked}

-- ---- any bytes

-- the bytes of the line that is not ended, behind these
abbrev pub line_after : List ℕ → List ℕ → List ℕ
line_after line [] = line
line_after line (b ∷ bs) = line_after (line_with line b) bs

pub blanked_append : (line xs ys : List ℕ) → blanked_in line (xs ++ ys) ≡ blanked_in line xs ++ blanked_in (line_after line xs) ys
blanked_append line [] ys = refl
blanked_append line (b ∷ bs) ys = ap (λ (l : List ℕ). blank_at line b ∷ l) (blanked_append (line_with line b) bs ys)

pub after_append : (line xs ys : List ℕ) → line_after line (xs ++ ys) ≡ line_after (line_after line xs) ys
after_append line [] ys = refl
after_append line (b ∷ bs) ys = after_append (line_with line b) bs ys

pub blanked_length : (line bs : List ℕ) → length (blanked_in line bs) ≡ length bs
blanked_length line [] = refl
blanked_length line (b ∷ bs) = ap suc (blanked_length (line_with line b) bs)

-- behind an LF a line begins
pub after_lf : (line xs : List ℕ) → line_after line (xs ++ (10 ∷ [])) ≡ []
after_lf line xs = after_append line xs (10 ∷ [])

-- ---- a line of a number

pub after_line : (line key : List ℕ) (n : ℕ) → line_after line (number_line key n) ≡ []
unfolding number_line
after_line line key n = after_lf line (key ++ (61 ∷ []) ++ digits n)

-- ---- a `jackpot` line

-- no LF
abbrev Plain : ℕ → Type 0
Plain b = b ≡ 10 → ⊥

plain_append : (xs ys : List ℕ) → All Plain xs → All Plain ys → All Plain (xs ++ ys)
plain_append [] ys p q = q
plain_append (x ∷ xs) ys p q = (p.0, plain_append xs ys p.1 q)

plain_zeros : (k : ℕ) → All Plain (replicate k 48)
plain_zeros zero = tt
plain_zeros (suc k) = ((λ e. omega arith), plain_zeros k)

plain_digit : (n : ℕ) → All Plain ((48 + n) ∷ [])
plain_digit n = ((λ e. omega arith), tt)

plain_digits : (more n : ℕ) → All Plain (digits_in more n)
plain_digits zero n = plain_digit n
plain_digits (suc more) n = go (ltb n 10) (plain_digits more (n / 10))
  where
    go : (b : Bool) → All Plain (digits_in more (n / 10)) → All Plain (pick b ((48 + n) ∷ []) (digits_in more (n / 10) ++ ((48 + n % 10) ∷ [])))
    go true r = plain_digit n
    go false r = plain_append (digits_in more (n / 10)) ((48 + n % 10) ∷ []) r (plain_digit (n % 10))

plain_nine : (n : ℕ) → All Plain (nine_digits n)
unfolding nine_digits digits
plain_nine n = plain_append (replicate (9 - length (digits_in 8 n)) 48) (digits_in 8 n) (plain_zeros (9 - length (digits_in 8 n))) (plain_digits 8 n)

-- a line that begins with `jackpot=`
abbrev told : List ℕ → List ℕ
told rest = key_jackpot ++ (61 ∷ rest)

told_blank : (rest : List ℕ) (b : ℕ) → Plain b → blank_at (told rest) b ≡ 48
told_blank rest b h = ap (λ (x : Bool). pick (not x) 48 b) (ne_eqb b 10 h)

told_with : (rest : List ℕ) (b : ℕ) → Plain b → line_with (told rest) b ≡ told (rest ++ (b ∷ []))
told_with rest b h = ap (λ (x : Bool). pick x [] (told (rest ++ (b ∷ [])))) (ne_eqb b 10 h)

number_blank : (rest bs : List ℕ) → All Plain bs → blanked_in (told rest) bs ≡ replicate (length bs) 48
number_blank rest [] h = refl
number_blank rest (b ∷ bs) h =
    ap₂ (λ (x : ℕ) (l : List ℕ). x ∷ l) (told_blank rest b h.0) (ap (λ (l : List ℕ). blanked_in l bs) (told_with rest b h.0) ∙ number_blank (rest ++ (b ∷ [])) bs h.1)

-- the key, nine zeros, LF
abbrev pub blank_line : List ℕ
blank_line = told (replicate 9 48 ++ (10 ∷ []))

after_number : (rest bs : List ℕ) → All Plain bs → line_after (told rest) bs ≡ told (rest ++ bs)
after_number rest [] h = ap told (sym (append-nil rest))
after_number rest (b ∷ bs) h =
    ap (λ (l : List ℕ). line_after l bs) (told_with rest b h.0) ∙ after_number (rest ++ (b ∷ [])) bs h.1 ∙ ap told (append_assoc rest (b ∷ []) bs)

pub blanked_jackpot : (n : ℕ) → blanked (nine_line key_jackpot n) ≡ blank_line
unfolding nine_line
blanked_jackpot n =
    let d : List ℕ = nine_digits n in
    let h : All Plain d = plain_nine n in
    blanked_append [] (told d) (10 ∷ [])
    ∙ ap₂ (λ (l m : List ℕ). told l ++ blanked_in m (10 ∷ [])) (number_blank [] d h ∙ ap (λ (k : ℕ). replicate k 48) (nine_is n)) (after_number [] d h)

pub after_jackpot : (n : ℕ) → line_after [] (nine_line key_jackpot n) ≡ []
unfolding nine_line
after_jackpot n = after_lf [] (key_jackpot ++ (61 ∷ []) ++ nine_digits n)
