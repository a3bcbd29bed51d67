-- What a line says, by its first letter: no two of the keys that are looked at begin with the same one. Assumes nothing.
use Prim.Native.Nat.{ℕ, ◌<◌, ◌≤◌, ◌^◌}
use mathlib.Core.Path.{◌≡◌, refl, sym, ap, ◌∙◌, subst}
use mathlib.Core.Bool.{false}
use mathlib.Core.List.{List, [], ◌∷◌}
use native.Mathlib.Nat.{suc-ne-zero}
use lib.Dec.{eqb, lit<}
use lib.ListN.{length, get_or, drop, get_or-eq_default}
use lib.Seq.{drop-cons}
use borrow.Author.Tests.{ne_eqb}
use Rattle.std.specs.Prelude.{Option, Some, None}
use Rattle.laws.specs.Tests.{both, pick}
use Rattle.laws.proofs.Conjunction.{both_none}
use Rattle.text.specs.Line.{starts_with, has_key, line_number, value_of}
use Rattle.text.specs.TableSheet.{value_in}
use Rattle.text.proofs.Numbers.{number_back}
use Rattle.answers.specs.Answer.{key_sitting, key_paid, key_unclaimed}
use Rattle.teller.specs.declared.keys.Line.{Line}
use Rattle.teller.specs.Lines.{key_give, key_rows, key_worth, key_count, other_line, keyed_line, said_of}

-- a number has at most nine digits, and a bad one is 0
pub value_small : (key line : List ℕ) → value_in (line_number key line) < 10 ^ 9
value_small key line = go (line_number key line) refl
  where
    go : (x : Option ℕ) → line_number key line ≡ x → value_in x < 10 ^ 9
    go (Some v) e = (number_back (value_of key line) v e).1
    go None e = lit< tt

-- a line whose end the key reaches has nothing behind it
pub key_whole : (key line : List ℕ) → length line ≤ length key → false ≡ has_key key line
key_whole key line h = sym (ap (λ b. both (starts_with key line) (eqb b 61)) (get_or-eq_default line 0 h) ∙ both_none (starts_with key line))

-- the line by its first letter
first : (line : List ℕ) (b : ℕ) → 0 < length line → get_or line 0 0 ≡ b → line ≡ b ∷ drop 1 line
first line b l e = drop-cons line 0 0 l ∙ ap (λ x. x ∷ drop 1 line) e

-- what stands for a key alone
abbrev by : ℕ → List ℕ → List ℕ → Line
by kind key line = pick (has_key key line) (keyed_line kind key line) other_line

module _ (line : List ℕ) (l : 0 < length line) where
  pub said_rows : get_or line 0 0 ≡ 114 → by 0 key_rows line ≡ said_of line
  unfolding said_of
  said_rows e = subst (λ t. by 0 key_rows t ≡ said_of t) (sym (first line 114 l e)) refl

  pub said_worth : get_or line 0 0 ≡ 119 → by 1 key_worth line ≡ said_of line
  unfolding said_of
  said_worth e = subst (λ t. by 1 key_worth t ≡ said_of t) (sym (first line 119 l e)) refl

  pub said_count : get_or line 0 0 ≡ 99 → by 2 key_count line ≡ said_of line
  unfolding said_of
  said_count e = subst (λ t. by 2 key_count t ≡ said_of t) (sym (first line 99 l e)) refl

  pub said_sitting : get_or line 0 0 ≡ 115 → by 3 key_sitting line ≡ said_of line
  unfolding said_of
  said_sitting e = subst (λ t. by 3 key_sitting t ≡ said_of t) (sym (first line 115 l e)) refl

  pub said_paid : get_or line 0 0 ≡ 112 → by 4 key_paid line ≡ said_of line
  unfolding said_of
  said_paid e = subst (λ t. by 4 key_paid t ≡ said_of t) (sym (first line 112 l e)) refl

  pub said_unclaimed : get_or line 0 0 ≡ 117 → by 5 key_unclaimed line ≡ said_of line
  unfolding said_of
  said_unclaimed e = subst (λ t. by 5 key_unclaimed t ≡ said_of t) (sym (first line 117 l e)) refl

  pub said_give : get_or line 0 0 ≡ 103 → by 6 key_give line ≡ said_of line
  unfolding said_of
  said_give e = subst (λ t. by 6 key_give t ≡ said_of t) (sym (first line 103 l e)) refl

  -- another first letter
  none_at : (b : ℕ) (bs : List ℕ) → (b ≡ 114 → ⊥) → (b ≡ 119 → ⊥) → (b ≡ 99 → ⊥) → (b ≡ 115 → ⊥) → (b ≡ 112 → ⊥) → (b ≡ 117 → ⊥) → (b ≡ 103 → ⊥) → other_line ≡ said_of (b ∷ bs)
  unfolding said_of
  none_at b bs r w c s p u g =
      rw (ne_eqb 114 b (λ e. r (sym e)), ne_eqb 119 b (λ e. w (sym e)), ne_eqb 99 b (λ e. c (sym e)), ne_eqb 115 b (λ e. s (sym e)), ne_eqb 112 b (λ e. p (sym e)), ne_eqb 117 b (λ e. u (sym e)), ne_eqb 103 b (λ e. g (sym e))) refl

  pub said_other : (b : ℕ) → get_or line 0 0 ≡ b → (b ≡ 114 → ⊥) → (b ≡ 119 → ⊥) → (b ≡ 99 → ⊥) → (b ≡ 115 → ⊥) → (b ≡ 112 → ⊥) → (b ≡ 117 → ⊥) → (b ≡ 103 → ⊥) → other_line ≡ said_of line
  said_other b e r w c s p u g = subst (λ t. other_line ≡ said_of t) (sym (first line b l e)) (none_at b (drop 1 line) r w c s p u g)

-- no line
pub said_none : (line : List ℕ) → length line ≡ 0 → other_line ≡ said_of line
unfolding said_of
said_none [] e = refl
said_none (x ∷ l) e = absurd (suc-ne-zero (length l) e)
